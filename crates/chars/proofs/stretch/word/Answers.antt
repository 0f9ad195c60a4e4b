-- Each byte that was passed is a character that goes on; where it stops none begins that does: proofs/Ends.antt.
use Prim.Native.Nat.{◌-◌}
use native.Mathlib.Omega.{arith}
use mathlib.Core.Path.{◌≡◌}
use Rattle.utf8.proofs.Laws.{look_past}
use Rattle.chars.proofs.Stretches.{no_more, one_more}
use Rattle.chars.specs.declared.stretch.Stretch.TheVariants.{Word}
use Rattle.chars.proofs.stretch.Ends.{ends_there, word_goes, word_byte, word_stops}
use Rattle.chars.proofs.stretch.word.Goals as goal
use Rattle.chars.proofs.stretch.word.Goals.{then-loop-at-test+else-is_id_continue, else-loop-at-test}

pub loop-at-init : goal.loop-at-init
loop-at-init c = let z : c.args.from - c.args.from ≡ 0 = omega arith in (no_more z, omega arith)

pub overflow_cast-text : goal.overflow_cast-text
overflow_cast-text c = omega (arith, c.shared_slice_known-in-loop-at-1.given c.loop-at.at)

pub overflow_add-at : goal.overflow_add-at
overflow_add-at c = omega (arith, c.loop-at-test.true)

pub loop-at-smaller : goal.loop-at-smaller
loop-at-smaller c = omega (arith, c.loop-at-test.true)

pub loop-at-preserved : goal.loop-at-preserved
loop-at-preserved c =
    let inv = c.loop-at.invariant in
    let y = word_goes _ c.is_id_continue.ensures c.if-is_id_continue.true in
    (one_more inv.0 (word_byte _ _ c.loop-at-test.true y) y (omega (arith, inv.1)), omega (arith, inv.1))

pub overflow_sub-result : goal.overflow_sub-result
overflow_sub-result c = c.loop-at.invariant.1

pub returns : goal.returns
returns c = elim c.loop-at-test.branch [
  | then-loop-at-test+else-is_id_continue w ↦
      word_stops _ _ w.loop-at-test.true (word_goes _ w.is_id_continue.ensures w.if-is_id_continue.false) c.loop-at.invariant.0
  | else-loop-at-test w ↦ ends_there Word _ c.loop-at.invariant.0 (look_past _ _ w.loop-at-test.false)
]
