-- Each range begins further on than the last one, so the code points left fall.
use Rattle.std.proofs.Common.{◌≤◌, ◌-◌}
use Rattle.unicode_ranges.proofs.list.Given as goal

abbrev pub invariant-loop-first : goal.invariant-loop-first
invariant-loop-first g l = l.first ≤ 0x110000

abbrev pub decreases-loop-first : goal.decreases-loop-first
decreases-loop-first g l = 0x110000 - l.first
