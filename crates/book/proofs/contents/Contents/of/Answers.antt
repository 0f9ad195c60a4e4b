-- A book with no count is short, and so is one that ends before its last row. Assumes nothing.
use native.Mathlib.Omega.{arith}
use Rattle.book.specs.Contents.{word_count}
use Rattle.book.proofs.contents.Parts.{no_count, too_short, has_count}
use Rattle.book.proofs.contents.Contents.of.Goals as goal

pub returns-then-book-lt2-clause-count : goal.returns-then-book-lt2-clause-count
returns-then-book-lt2-clause-count c = no_count _ (omega arith)

pub returns-then-book-words-clause-count : goal.returns-then-book-words-clause-count
returns-then-book-words-clause-count c = too_short _ _ c.u16_at-words.ensures.value (omega arith)

pub invariant_of-result : goal.invariant_of-result
unfolding word_count
invariant_of-result c = record { counted = c.u16_at-words.ensures.value; words_bound = c.u16_at-words.ensures.upper_bound; rows_within = omega (arith, c.u16_at-words.ensures.value) }

pub returns-clause-count : goal.returns-clause-count
returns-clause-count c = has_count _ _ c.u16_at-words.ensures.value (omega arith)
