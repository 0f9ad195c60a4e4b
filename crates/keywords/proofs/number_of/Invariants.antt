-- The loop keeps the number of the bytes read.
use Rattle.token.proofs.word_table.Numbers.{Read}
use Rattle.keywords.proofs.number_of.Given as goal

abbrev pub invariant-loop-b : goal.invariant-loop-b
invariant-loop-b l = Read l.text l.v l.b-index
