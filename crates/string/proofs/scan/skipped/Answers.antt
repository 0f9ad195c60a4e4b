-- Nothing, or one turn: proofs/Units.antt.
use Rattle.string.proofs.scan.Units.{skipped_reads}
use Rattle.string.proofs.scan.skipped.Goals as goal

pub returns-then-column_number-below : goal.returns-then-column_number-below
returns-then-column_number-below c =
    skipped_reads _ _ _ c.requires.0 c.requires.1 c.requires.2 c.advanced-place.ensures c.column_number.ensures c.if-column_number-below.true
