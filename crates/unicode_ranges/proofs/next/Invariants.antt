-- The code points passed are counted down to the end.
use Rattle.std.proofs.Common.{◌≤◌, ◌-◌}
use Rattle.unicode_ranges.proofs.next.Given as goal

abbrev pub invariant-loop-c : goal.invariant-loop-c
invariant-loop-c g l = (l.from ≤ l.c) × (l.c ≤ 0x110000)

abbrev pub decreases-loop-c : goal.decreases-loop-c
decreases-loop-c g l = 0x110000 - l.c
