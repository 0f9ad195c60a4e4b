-- It is ASCII, and none of those that are named: proofs/Passing.antt.
use native.Mathlib.Omega.{arith}
use Rattle.string_turn.proofs.take.Passing.{is_plain}
use Rattle.string_turn.proofs.take.is_plain.Goals as goal
use Rattle.string_turn.proofs.take.is_plain.Goals.{in-92, in_default}

pub returns-after-matches : goal.returns-after-matches
returns-after-matches c h =
    elim c.match-matches.branch [
      | in-92 w ↦ (let z = rw w.matches-is at h in cc)
      | in_default w ↦ (let own = w.in_default in (c.if-b-q.true.0, is_plain _ _ c.if-b-q.true.1 (grind arith)))
    ]
