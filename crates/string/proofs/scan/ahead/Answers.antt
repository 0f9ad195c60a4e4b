-- One thing leads on behind the other: proofs/Leading.antt.
use Prim.Native.Nat.{ℕ, ◌<◌}
use native.Mathlib.Omega.{arith}
use mathlib.Core.List.{List}
use Rattle.string.specs.Standing.{ScanLeads}
use Rattle.string.specs.Units.{stand_of}
use Rattle.string.specs.declared.scan.Clear.{Clear}
use Rattle.string.proofs.scan.Leading.{stays, leads_then}
use Rattle.string.proofs.scan.ahead.Goals as goal
use Rattle.string.proofs.scan.ahead.Goals.{After-add_stretch-last, After-add_unit-next}

-- behind a unit, if there was one
module _ (k : After-add_unit-next) where
  abbrev next : Clear
  next = k.add_unit-next.result

  abbrev memory : List ℕ
  memory = k.add_unit-next.new.out

  leads : ScanLeads k.args.text.now k.args.q k.args.start k.args.limit k.args.room (stand_of k.args.from) k.args.out.now (stand_of next) memory
  leads = leads_then _ _ _ _ _ k.loop-here.invariant k.add_unit-next.ensures

-- and behind a stretch
module _ (s : After-add_stretch-last) where
  abbrev last : Clear
  last = s.add_stretch-last.result

  abbrev held : List ℕ
  held = s.add_stretch-last.new.out

  further : ScanLeads s.args.text.now s.args.q s.args.start s.args.limit s.args.room (stand_of s.args.from) s.args.out.now (stand_of last) held
  further = leads_then _ _ _ _ _ (leads_then _ _ _ _ _ s.loop-here.invariant s.add_unit-next.ensures) (s.add_stretch-last.ensures s.args.start)

pub loop-here-init : goal.loop-here-init
loop-here-init c = stays _ _ _ _ _ _ _ c.requires.1

pub add_unit-next-requires : goal.add_unit-next-requires
add_unit-next-requires c = (c.requires.0, c.loop-here.invariant.within)

pub add_stretch-last-requires : goal.add_stretch-last-requires
add_stretch-last-requires c = (c.requires.0, (leads (goal.at.add_stretch-last-requires c).After-add_unit-next).within)

pub shape_of-out-then-last-next : goal.shape_of-out-then-last-next
shape_of-out-then-last-next c = (further (goal.at.shape_of-out-then-last-next c).After-add_stretch-last).same

pub returns-then-last-next : goal.returns-then-last-next
returns-then-last-next c = further (goal.at.returns-then-last-next c).After-add_stretch-last

pub loop-here-smaller-then-next-here : goal.loop-here-smaller-then-next-here
loop-here-smaller-then-next-here c =
    let x = c.add_stretch-last.ensures c.args.start in
    let l : c.add_unit-next.result.at < c.add_stretch-last.result.at = omega (arith, x.low, c.if-last-next.false) in
    omega (arith, c.add_unit-next.ensures.low, l, x.high l)

pub loop-here-preserved-then-next-here : goal.loop-here-preserved-then-next-here
loop-here-preserved-then-next-here c = further (goal.at.loop-here-preserved-then-next-here c).After-add_stretch-last

pub loop-here-smaller : goal.loop-here-smaller
loop-here-smaller c =
    let x = c.add_unit-next.ensures in
    let l : c.loop-here.here.at < c.add_unit-next.result.at = omega (arith, x.low, c.if-next-here.false) in
    omega (arith, l, x.high l)

pub loop-here-preserved : goal.loop-here-preserved
loop-here-preserved c = leads (goal.at.loop-here-preserved c).After-add_unit-next
