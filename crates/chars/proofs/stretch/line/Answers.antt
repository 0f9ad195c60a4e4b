-- What was passed is a stretch of characters that go on; where it stops none does: proofs/Ends.antt.
use Prim.Native.Nat.{ℕ, ◌≤◌}
use native.Mathlib.Omega.{arith}
use mathlib.Core.List.{List}
use mathlib.Core.Path.{refl, sym}
use lib.ListN.{length}
use Rattle.utf8.proofs.Bits.{look_ascii}
use Rattle.utf8.proofs.Laws.{look_past}
use Rattle.chars.specs.Stretch.{StretchOf, none, more, High}
use Rattle.chars.proofs.Stretches.{stretch_low, then_more}
use Rattle.chars.specs.declared.stretch.Stretch.TheVariants.{Line}
use Rattle.chars.proofs.stretch.Ends.{ends_there, stops_there, line_goes, line_stops}
use Rattle.chars.proofs.stretch.line.Goals as goal
use Rattle.chars.proofs.stretch.line.Goals.{After-high-run}

-- where longer characters are passed
module _ (k : After-high-run) where
  abbrev text : List ℕ
  text = k.args.text.now

  run : StretchOf text High k.loop-at.at k.high-run.result.count k.high-run.result.at
  run = k.high-run.ensures.stretch_of

  ends : k.high-run.result.at ≤ length text
  ends = k.high-run.ensures.at_le_stop

pub loop-at-init : goal.loop-at-init
loop-at-init c = none

pub overflow_cast-x : goal.overflow_cast-x
overflow_cast-x c = omega (arith, c.shared_slice_known-in-loop-at-1.given c.loop-at.at)

-- an ASCII byte: the end of the line, or one character more
pub returns-then-x-eq-LF : goal.returns-then-x-eq-LF
returns-then-x-eq-LF c =
    stops_there Line _ c.loop-at.invariant (sym (look_ascii _ _ c.loop-at-test.true 1 c.if-x-lt128.true refl)) (line_stops _ c.if-x-eq-LF.true)

pub overflow_add-at : goal.overflow_add-at
overflow_add-at c = omega (arith, c.loop-at-test.true)

pub overflow_add-count : goal.overflow_add-count
overflow_add-count c = omega (arith, c.loop-at-test.true, stretch_low c.loop-at.invariant)

pub loop-at-smaller-then-x-lt128 : goal.loop-at-smaller-then-x-lt128
loop-at-smaller-then-x-lt128 c = omega (arith, c.loop-at-test.true)

pub loop-at-preserved-then-x-lt128 : goal.loop-at-preserved-then-x-lt128
loop-at-preserved-then-x-lt128 c =
    more c.loop-at.invariant (sym (look_ascii _ _ c.loop-at-test.true 1 c.if-x-lt128.true refl)) (line_goes _ c.if-x-eq-LF.false)

pub high-run-requires : goal.high-run-requires
high-run-requires c = (c.loop-at-test.true, omega arith, c.if-x-lt128.false)

-- no character, or longer ones
pub returns-then-run-eq0 : goal.returns-then-run-eq0
returns-then-run-eq0 c =
    ends_there Line _ c.loop-at.invariant (c.high-run.ensures.from_value c.if-run-eq0.true refl)

pub overflow_add-count-else-x-lt128 : goal.overflow_add-count-else-x-lt128
overflow_add-count-else-x-lt128 c = omega (arith, ends (goal.at.overflow_add-count-else-x-lt128 c).After-high-run, stretch_low (run (goal.at.overflow_add-count-else-x-lt128 c).After-high-run), stretch_low c.loop-at.invariant)

pub loop-at-smaller : goal.loop-at-smaller
loop-at-smaller c = omega (arith, ends (goal.at.loop-at-smaller c).After-high-run, stretch_low (run (goal.at.loop-at-smaller c).After-high-run), c.if-run-eq0.false)

pub loop-at-preserved : goal.loop-at-preserved
loop-at-preserved c =
    then_more (λ x h. line_goes x (λ q. omega (arith, h, q))) c.loop-at.invariant (run (goal.at.loop-at-preserved c).After-high-run) refl

pub returns : goal.returns
returns c = ends_there Line _ c.loop-at.invariant (look_past _ _ c.loop-at-test.false)
