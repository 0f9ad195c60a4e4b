-- Between two turns what the run will have left is what it would have left from the start: proofs/Finishes.antt.
use Prim.Native.Nat.{ℕ, ◌-◌, ◌*◌, ◌/◌}
use mathlib.Core.Path.{◌≡◌}
use lib.ListN.{length}
use Rattle.reading.specs.CutRun.{bounds}
use Rattle.script.specs.Rules.{document01}
use Rattle.script.specs.States.{begun}
use Rattle.run.proofs.Finishes.{Running}
use Rattle.run.proofs.tokens.tokens.Given as goal

abbrev pub invariant-loop-to : goal.invariant-loop-to
invariant-loop-to g l =
    let part = g.P.Part in
    Running (λ (n : ℕ). part.WIDTH * n) part.laid document01 l.script l.book l.room.bounds (part.numbers l.initial.entries) l.initial.literals begun l.s l.room.listed l.room.used (part.numbers l.entries) l.literals
    × (l.room.bounds ≡ bounds l.limit (length l.initial.literals) (length (part.numbers l.initial.entries) / part.WIDTH))
    × (length l.entries ≡ length l.initial.entries)

abbrev pub decreases-loop-to : goal.decreases-loop-to
decreases-loop-to g l = length l.script - l.s.cursor.at
