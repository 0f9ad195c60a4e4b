-- By the branches that were taken.
use native.Mathlib.Omega.{arith}
use Prim.Native.Nat.{◌+◌, ◌-◌}
use mathlib.Core.Path.{◌≡◌}
use Rattle.listed.proofs.Lines.{part_none, part_some}
use Rattle.listed.proofs.part.Goals.{else-at-bytes-via-then-at-bytes+else-len-bytes, else-at-bytes-via-else-at-bytes}
use Rattle.listed.proofs.part.Goals as goal

pub returns-then-len-bytes : goal.returns-then-len-bytes
returns-then-len-bytes c =
    let args = c.args in
    let len : (args.at + args.len) - args.at ≡ args.len = omega arith in
    rw len (part_some _ _ _ (omega (arith, c.if-at-bytes.true, c.if-len-bytes.true)))

pub returns-else-at-bytes : goal.returns-else-at-bytes
returns-else-at-bytes c =
    elim c.else-at-bytes.branch [
      | else-at-bytes-via-then-at-bytes+else-len-bytes w ↦ part_none _ _ _ (omega (arith, w.if-at-bytes.true, w.if-len-bytes.false))
      | else-at-bytes-via-else-at-bytes w ↦ part_none _ _ _ (omega (arith, w.if-at-bytes.false))
    ]
