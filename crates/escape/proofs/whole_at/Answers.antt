-- Two bytes below 80 are the backslash and the character behind it.
use Rattle.utf8.specs.Looks.{char_found}
use Prim.Native.Nat.{◌+◌}
use native.Mathlib.Omega.{arith}
use mathlib.Core.Path.{refl, sym, ap, ◌∙◌}
use Rattle.utf8.proofs.Bits.{look_ascii}
use Rattle.escape.specs.Whole.{none}
use Rattle.escape.proofs.whole_at.Goals as goal

pub returns-then-text-at : goal.returns-then-text-at
returns-then-text-at c = none

pub overflow_add-c : goal.overflow_add-c
overflow_add-c c = omega (arith, c.if-text-at-lt2.false)

pub bounds-text-at-2 : goal.bounds-text-at-2
bounds-text-at-2 c = omega (arith, c.if-text-at-lt2.false, c.if-text-at.false)

pub returns-then-c-lt32 : goal.returns-then-c-lt32
returns-then-c-lt32 c = none

pub whole_of-requires : goal.whole_of-requires
whole_of-requires c = (
  omega (arith, c.if-text-at-lt2.false, c.if-text-at.false),
  sym (look_ascii c.args.text.now c.args.at c.if-text-at.false 1 (omega (arith, c.if-text-at-ne-BACKSLASH.false)) refl) ∙ ap (λ b. char_found b 1) c.if-text-at-ne-BACKSLASH.false,
  sym (look_ascii c.args.text.now (c.args.at + 1) (omega (arith, c.if-text-at-lt2.false, c.if-text-at.false)) 1 c.if-c-ge128.false refl),
  c.if-c-lt32.false,
)

pub returns : goal.returns
returns c = c.whole_of.ensures
