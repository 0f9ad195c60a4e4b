-- The invariant is that what is left, with the bytes so far, is answered as the whole (proofs/Measuring.antt), and that the bytes left, stored from here on, make what the whole body makes (proofs/Writing.antt). Reading ahead keeps both.
use Prim.Native.Nat.{ℕ}
use native.Mathlib.Omega.{arith}
use mathlib.Core.List.{List}
use mathlib.Core.Path.{refl, ap}
use Rattle.literal.specs.Scans.{refused_with}
use Rattle.string.specs.Standing.{Measured, WrittenSoFar}
use Rattle.string.specs.declared.scan.ScanStand.{ScanStand}
use Rattle.string.proofs.scan.Measuring.{measured_start, measured_over, measured_full, measured_less, measured_more}
use Rattle.string.proofs.scan.Writing.{written_start, written_more, written_over}
use Rattle.string.proofs.scan.scan.Goals as goal
use Rattle.string.proofs.scan.scan.Goals.{After-lead-stand}

-- behind what was read ahead
module _ (k : After-lead-stand) where
  abbrev there : ScanStand
  there = k.lead-stand.result

  abbrev memory : List ℕ
  memory = k.lead-stand.new.out

  stands : Measured k.args.text.now k.args.from k.args.q k.args.limit k.args.room there.at there.state there.n
  stands = k.lead-stand.ensures.measured k.args.from refl k.loop-r.invariant.0

  wrote : WrittenSoFar k.args.text.now k.args.q k.args.from k.args.out.now memory there.at there.state there.n
  wrote = k.lead-stand.ensures.written k.args.from refl k.args.out.now k.loop-r.invariant.1

pub loop-r-init : goal.loop-r-init
loop-r-init c = (measured_start _ _ _ _ _ c.begun-s.ensures, written_start _ _ _ _ c.begun-s.ensures)

pub lead-stand-requires : goal.lead-stand-requires
lead-stand-requires c = c.loop-r.invariant.0.within

pub shape_of-out-in-Break : goal.shape_of-out-in-Break
shape_of-out-in-Break c = (wrote (goal.at.shape_of-out-in-Break c).After-lead-stand).same

pub returns-in-Break : goal.returns-in-Break
returns-in-Break c = record { value = measured_over _ _ _ _ _ (stands (goal.at.returns-in-Break c).After-lead-stand) c.turn.ensures c.in-Break.is; body_kept = written_over _ _ _ _ _ _ _ _ (wrote (goal.at.returns-in-Break c).After-lead-stand) _ c.turn.ensures _ c.in-Break.is }

pub overflow_sub-room : goal.overflow_sub-room
overflow_sub-room c = (stands (goal.at.overflow_sub-room c).After-lead-stand).within

pub shape_of-out-then-room-n : goal.shape_of-out-then-room-n
shape_of-out-then-room-n c = (wrote (goal.at.shape_of-out-then-room-n c).After-lead-stand).same

pub returns-then-room-n : goal.returns-then-room-n
returns-then-room-n c = let refused = ap refused_with c.as_given.ensures in record { value = measured_full _ _ _ _ _ (stands (goal.at.returns-then-room-n c).After-lead-stand) c.turn.ensures c.in-Continue.is c.size-m.ensures c.if-room-n.true refused; body_kept = tt }

pub overflow_add-n : goal.overflow_add-n
overflow_add-n c =
    omega (arith, c.if-room-n.false, (stands (goal.at.overflow_add-n c).After-lead-stand).within, c.well_formed)

pub loop-r-smaller : goal.loop-r-smaller
loop-r-smaller c =
    omega (arith, measured_less _ _ _ _ _ (stands (goal.at.loop-r-smaller c).After-lead-stand) c.turn.ensures c.in-Continue.is, c.lead-stand.ensures.low)

pub loop-r-preserved : goal.loop-r-preserved
loop-r-preserved c = (
  measured_more _ _ _ _ _ (stands (goal.at.loop-r-preserved c).After-lead-stand) c.turn.ensures c.in-Continue.is c.size-m.ensures c.if-room-n.false,
  written_more _ _ _ _ _ _ _ _ (wrote (goal.at.loop-r-preserved c).After-lead-stand) _ c.turn.ensures c.in-Continue.is c.size-m.ensures c.put.ensures.out_after,
)
