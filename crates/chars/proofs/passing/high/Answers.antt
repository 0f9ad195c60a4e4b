-- The stretch so far; while it has no character, the loop stands where it began.
use Prim.Native.Nat.{ℕ, ◌+◌, ◌≤◌, ◌<◌}
use native.Mathlib.Omega.{arith}
use mathlib.Core.List.{List}
use mathlib.Core.Path.{◌≡◌, refl, ap, sym, ◌∙◌}
use lib.ListN.{length, get_or}
use Rattle.utf8.specs.Table.{look_at}
use Rattle.utf8.proofs.Laws.{at_width}
use Rattle.chars.specs.Stretch.{none, more, NextChar, High}
use Rattle.chars.proofs.Stretches.{stretch_low}
use Rattle.chars.proofs.passing.high.Goals as goal
use Rattle.chars.proofs.passing.high.Goals.{After-width-w, At-loop-at}

-- an ASCII byte is not the first one
low-is-not-first : (t : List ℕ) (from at : ℕ) → 0x80 ≤ get_or t from 0 → get_or t at 0 ≤ 0x7F → at ≡ from → ⊥
low-is-not-first t from at h g q = omega (arith, h, g, ap (λ (i : ℕ). get_or t i 0) q)

-- where the loop stands
module _ (k : At-loop-at) where
  abbrev text : List ℕ
  text = k.args.text.now

  abbrev at : ℕ
  at = k.loop-at.at

  inside : at < k.args.stop → at < length text
  inside h = omega (arith, h, k.requires.1)

-- where the width of a character is known
module _ (w : After-width-w) where
  module _ (n : w.width-w.result ≡ 0 → ⊥) where
    next : NextChar w.args.text.now High w.loop-at.at w.args.stop w.width-w.result
    next = w.width-w.ensures.next_char n

    some : (1 ≤ w.width-w.result) × (w.loop-at.at + w.width-w.result ≤ length w.args.text.now) × (w.width-w.result ≤ 4)
    some = at_width w.args.text.now w.loop-at.at next.found

pub loop-at-init : goal.loop-at-init
loop-at-init c = (none, omega (arith, c.requires.0), λ z. refl)

pub bounds-text-at : goal.bounds-text-at
bounds-text-at c = inside (goal.at.bounds-text-at c).At-loop-at c.loop-at-test.true

pub overflow_cast-x : goal.overflow_cast-x
overflow_cast-x c = omega (arith, c.shared_slice_known-in-loop-at-1.given c.loop-at.at)

pub returns-then-x-le127 : goal.returns-then-x-le127
returns-then-x-le127 c = let i = c.loop-at.invariant in record { stretch_of = i.0; at_le_stop = i.1; from_value = λ z s. absurd (low-is-not-first c.args.text.now c.args.from c.loop-at.at c.requires.2 c.if-x-le127.true (i.2 z)) }

pub width-w-requires : goal.width-w-requires
width-w-requires c = (inside (goal.at.width-w-requires c).At-loop-at c.loop-at-test.true, refl, omega (arith, c.if-x-le127.false), c.loop-at.invariant.1)

pub returns-then-w-eq0 : goal.returns-then-w-eq0
returns-then-w-eq0 c = let i = c.loop-at.invariant in record { stretch_of = i.0; at_le_stop = i.1; from_value = λ z s. ap (look_at c.args.text.now) (sym (i.2 z)) ∙ c.width-w.ensures.at_value c.if-w-eq0.true s }

pub overflow_add-at : goal.overflow_add-at
overflow_add-at c = omega (arith, some (goal.at.overflow_add-at c).After-width-w c.if-w-eq0.false)

pub overflow_add-count : goal.overflow_add-count
overflow_add-count c = omega (arith, some (goal.at.overflow_add-count c).After-width-w c.if-w-eq0.false, stretch_low c.loop-at.invariant.0)

pub loop-at-smaller : goal.loop-at-smaller
loop-at-smaller c = omega (arith, some (goal.at.loop-at-smaller c).After-width-w c.if-w-eq0.false, (next (goal.at.loop-at-smaller c).After-width-w c.if-w-eq0.false).fits)

pub loop-at-preserved : goal.loop-at-preserved
loop-at-preserved c =
    let x = next (goal.at.loop-at-preserved c).After-width-w c.if-w-eq0.false in
    (more c.loop-at.invariant.0 x.found x.is, x.fits, λ z. absurd (omega (arith, z)))

pub returns : goal.returns
returns c = let i = c.loop-at.invariant in record { stretch_of = i.0; at_le_stop = i.1; from_value = λ z s. absurd (omega (arith, i.2 z, c.loop-at-test.false, c.requires.0)) }
