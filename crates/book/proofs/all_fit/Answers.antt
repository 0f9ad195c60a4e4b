-- The words are the book's, in turn. Assumes nothing.
use native.Mathlib.Omega.{arith}
use mathlib.Core.Path.{refl, ◌∙◌}
use Rattle.std.proofs.Common.{rules, tests}
use Rattle.std.proofs.lemmas.Iterator.{YieldsList-from_range}
use Rattle.std.proofs.lemmas.Iterator.Search.{all_from_yields_List}
use Rattle.book.specs.Contents.{word_at}
use Rattle.book.specs.Book.{fit}
use Rattle.book.proofs.Words.{each_fits}
use Rattle.book.proofs.all_fit.Goals as goal

pub returns : goal.returns
returns c =
    all_from_yields_List (λ k. fit (word_at c.args.contents.book.now k)) _ _ c.all.result c.all.ensures.ran (YieldsList-from_range 0 c.args.contents.words c.args.contents.words refl (omega arith)) (λ x b q k. search (rules, tests))
    ∙ each_fits _ _ c.args.contents.counted
