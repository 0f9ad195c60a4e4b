-- What is skipped from here is what is skipped from the start.
use Rattle.utf8.specs.Looks.{char_found}
use Prim.Native.Nat.{ℕ, ◌+◌, ◌≤◌}
use native.Mathlib.Omega.{arith}
use mathlib.Core.List.{List}
use mathlib.Core.Path.{◌≡◌, sym, ◌∙◌}
use lib.ListN.{length}
use Rattle.utf8.specs.Table.{look_at}
use Rattle.utf8.proofs.Laws.{at_width}
use Rattle.find.proofs.Skips.{skip_begun, skip_end, skip_beyond, skip_other, skip_line, skip_more}
use Rattle.find.proofs.skip.Goals as goal
use Rattle.find.proofs.skip.Goals.{In-Some, then-c-ge128-via-then-c-ge128, then-c-ge128-via-else-c-ge128+then-not-is_white}

-- the character that was seen
module _ (k : In-Some) where
  abbrev text : List ℕ
  text = k.args.text.now

  abbrev at : ℕ
  at = k.loop-c.at

  abbrev c : ℕ
  c = k.in-Some.c

  abbrev width : ℕ
  width = k.in-Some.width

  seen : look_at text at ≡ char_found c width
  seen = sym k.look_at.ensures ∙ k.in-Some.is

  wide : (1 ≤ width) × (at + width ≤ length text) × (width ≤ 4)
  wide = at_width text at seen

pub loop-c-init : goal.loop-c-init
loop-c-init c = skip_begun _ _ _

pub overflow_add-at : goal.overflow_add-at
overflow_add-at c = omega (arith, wide (goal.at.overflow_add-at c).In-Some)

pub loop-c-smaller-then-c-eq-LF : goal.loop-c-smaller-then-c-eq-LF
loop-c-smaller-then-c-eq-LF c = omega (arith, wide (goal.at.loop-c-smaller-then-c-eq-LF c).In-Some)

pub loop-c-preserved-then-c-eq-LF : goal.loop-c-preserved-then-c-eq-LF
loop-c-preserved-then-c-eq-LF c =
    rw (c.lined-place.ensures, c.advanced-place.ensures) (skip_line _ _ _ c.loop-c.invariant (seen (goal.at.loop-c-preserved-then-c-eq-LF c).In-Some) c.if-c-ge128.false (sym c.is_white.ensures ∙ c.if-not-is_white.false) c.if-c-eq-LF.true)

pub loop-c-smaller : goal.loop-c-smaller
loop-c-smaller c = omega (arith, wide (goal.at.loop-c-smaller c).In-Some)

pub loop-c-preserved : goal.loop-c-preserved
loop-c-preserved c =
    rw c.advanced-place.ensures (skip_more _ _ _ c.loop-c.invariant (seen (goal.at.loop-c-preserved c).In-Some) c.if-c-ge128.false (sym c.is_white.ensures ∙ c.if-not-is_white.false) c.if-c-eq-LF.false)

pub returns-then-c-ge128 : goal.returns-then-c-ge128
returns-then-c-ge128 c =
    let saw = (seen (goal.at.returns-then-c-ge128 c).In-Some) in
    elim c.then-c-ge128.branch [
      | then-c-ge128-via-then-c-ge128 w ↦ sym (skip_beyond _ _ _ c.loop-c.invariant saw w.if-c-ge128.true)
      | then-c-ge128-via-else-c-ge128+then-not-is_white w ↦ sym (skip_other _ _ _ c.loop-c.invariant saw (sym w.is_white.ensures ∙ w.if-not-is_white.true))
    ]

pub returns-in_default : goal.returns-in_default
returns-in_default c = sym (skip_end _ _ _ c.loop-c.invariant (sym c.look_at.ensures ∙ c.in_default.is))
