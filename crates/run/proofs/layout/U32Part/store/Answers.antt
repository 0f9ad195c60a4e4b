-- The row goes to its part of the memory.
use native.Mathlib.Omega.{arith}
use Prim.Native.Nat.{◌*◌}
use mathlib.Core.Path.{◌∙◌}
use Rattle.run.specs.Widths.{five}
use Rattle.run.proofs.Rows.{copied}
use Rattle.run.proofs.layout.U32Part.store.Goals as goal

pub returns : goal.returns
returns c =
    rw (c.copy_from_slice.ensures.after, c.row.ensures) (copied c.args.entries.now _ (5 * c.args.n) _ (omega (arith, c.requires.2)) (five c.args.e ∙ omega arith))
