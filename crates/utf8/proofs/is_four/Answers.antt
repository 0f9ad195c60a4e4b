-- The bytes of the row, one by one.
use native.Mathlib.Omega.{arith}
use borrow.Author.Tests.{ltb-true}
use Rattle.utf8.proofs.Widths.{row_four_low, fits_on, fits_bits, fits_bits_from}
use Rattle.utf8.proofs.is_four.Goals as goal

pub returns : goal.returns
returns c y =
    rw (
      row_four_low c.args.a _ (omega arith) (omega arith),
      fits_on _ _ 1 _ _ (fits_bits_from _ _ c.bits_at-b.ensures (omega arith) (omega arith)),
      fits_on _ _ 2 _ _ (fits_bits _ _ c.bits_at.ensures (omega arith)),
      fits_bits _ _ c.bits_at-2.ensures (ltb-true _ _ y),
    )
