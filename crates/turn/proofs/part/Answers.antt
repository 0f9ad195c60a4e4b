-- Listed where there is room, else 10.
use native.Mathlib.Omega.{arith}
use Rattle.script.specs.States.{behind_of}
use Rattle.turn.proofs.Stepping.{part_listed, part_full}
use Rattle.turn.proofs.part.Goals as goal

pub overflow_sub-len : goal.overflow_sub-len
overflow_sub-len c = omega (arith, c.requires)

pub returns-then-room : goal.returns-then-room
unfolding behind_of
returns-then-room c =
    λ level braces due. rw c.advanced-place.ensures (part_listed _ _ _ _ _ _ _ c.if-room.true, tt)

pub returns : goal.returns
returns c =
    λ level braces due. rw (c.stop.ensures, c.advanced-place.ensures) (part_full _ _ _ _ _ _ _ c.if-room.false, tt)
