-- One thing leads on behind the other: proofs/Leading.antt.
use Prim.Native.Nat.{◌-◌}
use lib.ListN.{length}
use Rattle.string.specs.Standing.{ScanLeads}
use Rattle.string.specs.Units.{stand_of}
use Rattle.string.proofs.scan.ahead.Given as goal

abbrev pub invariant-loop-here : goal.invariant-loop-here
invariant-loop-here l = ScanLeads l.text l.q l.start l.limit l.room (stand_of l.initial.here) l.initial.out (stand_of l.here) l.out

abbrev pub decreases-loop-here : goal.decreases-loop-here
decreases-loop-here l = length l.text - l.here.at
