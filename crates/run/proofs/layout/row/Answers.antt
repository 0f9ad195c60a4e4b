-- The five numbers, in their order.
use Rattle.entry.specs.Entries.{numbers_of}
use Rattle.run.proofs.layout.row.Goals as goal

pub returns : goal.returns
unfolding numbers_of
returns c = rw (c.from.ensures, c.number.ensures, c.line_number.ensures, c.column_number.ensures)
