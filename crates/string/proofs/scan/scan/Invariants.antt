-- The invariant is that what is left, with the bytes so far, is answered as the whole (proofs/Measuring.antt), and that the bytes left, stored from here on, make what the whole body makes (proofs/Writing.antt). Reading ahead keeps both.
use Prim.Native.Nat.{◌-◌}
use lib.ListN.{length}
use Rattle.string.specs.Standing.{Measured, WrittenSoFar}
use Rattle.string.proofs.scan.scan.Given as goal

abbrev pub invariant-loop-r : goal.invariant-loop-r
invariant-loop-r l = Measured l.text l.from l.q l.limit l.room l.at l.s l.n × WrittenSoFar l.text l.q l.from l.initial.out l.out l.at l.s l.n

abbrev pub decreases-loop-r : goal.decreases-loop-r
decreases-loop-r l = length l.text - l.at
