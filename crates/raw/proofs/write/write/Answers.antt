-- The body stands in the text where the opening leads to, and is copied from there.
use Prim.Native.Nat.{◌+◌, ◌≤◌}
use native.Mathlib.Omega.{arith}
use lib.ListN.{length}
use Rattle.raw.specs.Raw.{as_source}
use Rattle.raw.proofs.write.Parts.{nothing_to_write, reaches, written}
use Rattle.raw.proofs.write.write.Goals as goal
use Rattle.raw.proofs.write.write.Goals.{In-Ok}

-- the body that was found
module _ (k : In-Ok) where
  within : k.in-Ok.from.at + k.args.len ≤ length k.args.text.now
  within = reaches as_source _ _ _ k.«open».ensures k.in-Ok.is k.requires.1 k.requires.0

pub returns-in_default : goal.returns-in_default
returns-in_default c = nothing_to_write as_source _ _ _ c.«open».ensures c.in_default.is _

pub overflow_add-from : goal.overflow_add-from
overflow_add-from c = omega (arith, within (goal.at.overflow_add-from c).In-Ok)

pub slice_bounds-copy-start : goal.slice_bounds-copy-start
slice_bounds-copy-start c = omega (arith, within (goal.at.slice_bounds-copy-start c).In-Ok)

pub slice_bounds-copy-end : goal.slice_bounds-copy-end
slice_bounds-copy-end c = within (goal.at.slice_bounds-copy-end c).In-Ok

pub returns-in-Ok : goal.returns-in-Ok
returns-in-Ok c =
    written as_source _ _ _ c.«open».ensures c.in-Ok.is c.requires.1 _ c.requires.2 c.copy.ensures.out_after
