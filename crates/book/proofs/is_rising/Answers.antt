-- Each word but the first is above the one before it. Assumes nothing.
use mathlib.Core.Path.{refl, ◌∙◌}
use Rattle.std.proofs.Common.{rules, tests}
use Rattle.std.proofs.lemmas.Iterator.{YieldsList-from_range}
use Rattle.std.proofs.lemmas.Iterator.Search.{all_from_yields_List}
use Rattle.book.proofs.Words.{is_above, each_rises}
use Rattle.book.proofs.is_rising.Goals as goal

pub returns : goal.returns
returns c =
    all_from_yields_List (is_above c.args.contents.book.now) _ _ c.all.result c.all.ensures.ran (YieldsList-from_range 1 c.args.contents.words _ refl refl) (λ x b q k. search (rules, tests))
    ∙ each_rises _ _ c.args.contents.counted
