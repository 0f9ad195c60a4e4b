-- The stretch so far: `extra` is how many of its bytes are not the first of a character.
use Prim.Native.Nat.{ℕ, ◌+◌, ◌-◌, ◌≤◌, ◌<◌}
use native.Mathlib.Omega.{arith}
use mathlib.Core.List.{List}
use mathlib.Core.Path.{◌≡◌, refl, sym, ◌∙◌}
use lib.ListN.{length}
use Rattle.utf8.proofs.Bits.{look_ascii}
use Rattle.chars.specs.Stretch.{StretchOf, High, Other}
use Rattle.chars.proofs.Stretches.{stretch_low, one_more, no_more, then_more, high_other}
use Rattle.chars.proofs.passing.pass.Goals as goal
use Rattle.chars.proofs.passing.pass.Goals.{After-high-run, At-loop-at}

-- where the loop stands
module _ (k : At-loop-at) where
  abbrev text : List ℕ
  text = k.args.text.now

  abbrev at : ℕ
  at = k.loop-at.at

  abbrev stop : ℕ
  stop = k.last-stop.result

  -- an offset before the stop is in the text
  inside : at < stop → at < length text
  inside h = omega (arith, k.last-stop.ensures.2 (omega (arith, h, k.loop-at.invariant)), h)

  -- the answer
  gives : StretchOf text (Other k.args.a k.args.b k.args.d k.args.e k.args.f) k.args.from (at - k.args.from - k.loop-at.extra) at × (at ≤ k.args.from + k.args.most)
  gives = (k.loop-at.invariant.0, omega (arith, k.loop-at.invariant.2, k.last-stop.ensures.1))

-- characters of more bytes
module _ (w : After-high-run) where
  run : StretchOf w.args.text.now High w.loop-at.at w.high-run.result.count w.high-run.result.at
  run = w.high-run.ensures.stretch_of

  some : w.loop-at.at + w.high-run.result.count ≤ w.high-run.result.at
  some = stretch_low run

  ends : w.high-run.result.at ≤ w.last-stop.result
  ends = w.high-run.ensures.at_le_stop

pub loop-at-init : goal.loop-at-init
loop-at-init c = (let z : c.args.from - c.args.from - 0 ≡ 0 = omega arith in no_more z, omega arith, c.last-stop.ensures.0)

pub bounds-text-at : goal.bounds-text-at
bounds-text-at c = inside (goal.at.bounds-text-at c).At-loop-at c.loop-at-test.true

pub overflow_cast-x : goal.overflow_cast-x
overflow_cast-x c = omega (arith, c.shared_slice_known-in-loop-at-1.given c.loop-at.at)

pub overflow_sub-result : goal.overflow_sub-result
overflow_sub-result c = omega (arith, c.loop-at.invariant.1)

pub overflow_sub-result-then-is_among : goal.overflow_sub-result-then-is_among
overflow_sub-result-then-is_among c = omega (arith, c.loop-at.invariant.1)

pub returns-then-is_among : goal.returns-then-is_among
returns-then-is_among c = record { stretch_of = (gives (goal.at.returns-then-is_among c).At-loop-at).0; at_bound = (gives (goal.at.returns-then-is_among c).At-loop-at).1 }

pub overflow_add-at : goal.overflow_add-at
overflow_add-at c = omega (arith, inside (goal.at.overflow_add-at c).At-loop-at c.loop-at-test.true)

pub loop-at-smaller-then-x-lt128 : goal.loop-at-smaller-then-x-lt128
loop-at-smaller-then-x-lt128 c = omega (arith, c.loop-at-test.true)

pub loop-at-preserved-then-x-lt128 : goal.loop-at-preserved-then-x-lt128
loop-at-preserved-then-x-lt128 c =
    let i = c.loop-at.invariant in
    let h = inside (goal.at.loop-at-preserved-then-x-lt128 c).At-loop-at c.loop-at-test.true in (
      one_more i.0 (sym (look_ascii c.args.text.now c.loop-at.at h 1 c.if-x-lt128.true refl)) (sym c.is_among.ensures ∙ c.if-is_among.false) (omega (arith, i.1)),
      omega (arith, i.1),
      omega (arith, c.loop-at-test.true),
    )

pub high-run-requires : goal.high-run-requires
high-run-requires c = let h = c.loop-at-test.true in (h, omega (arith, c.last-stop.ensures.2 (omega (arith, h, c.loop-at.invariant))), c.if-x-lt128.false)

pub overflow_sub-result-then-run-eq0 : goal.overflow_sub-result-then-run-eq0
overflow_sub-result-then-run-eq0 c = omega (arith, c.loop-at.invariant.1)

pub overflow_sub-result-then-run-eq0-2 : goal.overflow_sub-result-then-run-eq0-2
overflow_sub-result-then-run-eq0-2 c = omega (arith, c.loop-at.invariant.1)

pub returns-then-run-eq0 : goal.returns-then-run-eq0
returns-then-run-eq0 c = record { stretch_of = (gives (goal.at.returns-then-run-eq0 c).At-loop-at).0; at_bound = (gives (goal.at.returns-then-run-eq0 c).At-loop-at).1 }

pub overflow_sub-extra : goal.overflow_sub-extra
overflow_sub-extra c = omega (arith, some (goal.at.overflow_sub-extra c).After-high-run)

pub overflow_sub-extra-else-x-lt128 : goal.overflow_sub-extra-else-x-lt128
overflow_sub-extra-else-x-lt128 c = omega (arith, some (goal.at.overflow_sub-extra-else-x-lt128 c).After-high-run)

pub overflow_add-extra : goal.overflow_add-extra
overflow_add-extra c = omega (arith, some (goal.at.overflow_add-extra c).After-high-run, c.loop-at.invariant.1, ends (goal.at.overflow_add-extra c).After-high-run)

pub loop-at-smaller : goal.loop-at-smaller
loop-at-smaller c = omega (arith, some (goal.at.loop-at-smaller c).After-high-run, ends (goal.at.loop-at-smaller c).After-high-run, c.if-run-eq0.false)

pub loop-at-preserved : goal.loop-at-preserved
loop-at-preserved c =
    let i = c.loop-at.invariant in
    let s = some (goal.at.loop-at-preserved c).After-high-run in
    (then_more (λ x h. high_other _ _ _ _ _ x c.requires h) i.0 (run (goal.at.loop-at-preserved c).After-high-run) (omega (arith, i.1, s)), omega (arith, i.1, s), ends (goal.at.loop-at-preserved c).After-high-run)

pub overflow_sub-result-2 : goal.overflow_sub-result-2
overflow_sub-result-2 c = omega (arith, c.loop-at.invariant.1)

pub overflow_sub-result-3 : goal.overflow_sub-result-3
overflow_sub-result-3 c = omega (arith, c.loop-at.invariant.1)

pub returns : goal.returns
returns c = record { stretch_of = (gives (goal.at.returns c).At-loop-at).0; at_bound = (gives (goal.at.returns c).At-loop-at).1 }
