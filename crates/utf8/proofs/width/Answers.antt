-- The common rows tell the width, and else `width_beyond`.
use native.Mathlib.Omega.{arith}
use Rattle.utf8.proofs.Widths.{row_none, row_two, fits_bits, fits_no_bits}
use Rattle.utf8.proofs.width.Goals as goal
use Rattle.utf8.proofs.width.Goals.{then-a-lt194-via-then-a-lt194, then-a-lt194-via-else-a-lt194+then-bits_at-gt63}

pub returns-then-a-lt194 : goal.returns-then-a-lt194
returns-then-a-lt194 c = elim c.then-a-lt194.branch [
  | then-a-lt194-via-then-a-lt194 w ↦ rw (row_none c.args.a _ (omega arith) w.if-a-lt194.true)
  | then-a-lt194-via-else-a-lt194+then-bits_at-gt63 w ↦
      rw (row_two c.args.a _ w.if-a-lt194.false (omega arith), fits_no_bits _ _ w.bits_at.ensures w.if-bits_at-gt63.true)
]

pub returns-then-a-lt224 : goal.returns-then-a-lt224
returns-then-a-lt224 c = rw (row_two c.args.a _ c.if-a-lt194.false (omega arith), fits_bits _ _ c.bits_at.ensures (omega arith))
