-- Between two numbers what is still to be spelt goes where the whole was to go.
use Rattle.numbers.proofs.Rows.{Rowed}
use Rattle.numbers.proofs.write_row.Given as goal

abbrev pub invariant-loop-n : goal.invariant-loop-n
invariant-loop-n l = Rowed l.row l.width l.initial.out l.out l.at l.n-index
