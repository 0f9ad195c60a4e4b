-- Each test leads on to the next law. A letter, `_` or a digit is not white, so it may be tested first.
use Rattle.utf8.specs.Looks.{char_found}
use Prim.Native.Nat.{ℕ, ◌+◌, ◌≤◌}
use native.Mathlib.Omega.{arith}
use mathlib.Core.Bool.{false}
use mathlib.Core.Path.{◌≡◌, sym, ◌∙◌}
use lib.ListN.{length}
use Rattle.utf8.specs.Table.{look_at}
use Rattle.utf8.proofs.Laws.{at_width}
use Rattle.classes.specs.Class.{is_numeric_digit}
use Rattle.find.specs.Find.{begins_word}
use Rattle.find.proofs.Begins.{nothing_more_lem, finds_white, finds_word, finds_digit, finds_mark}
use Rattle.find.proofs.find.Goals as goal
use Rattle.find.proofs.find.Goals.{Else-begins_word, Else-is_numeric_digit, In-Some}

-- the character that was seen
module _ (k : In-Some) where
  abbrev width : ℕ
  width = k.in-Some.width

  seen : look_at k.args.text.now k.args.from.at ≡ char_found k.in-Some.c width
  seen = sym k.look_at.ensures ∙ k.in-Some.is

  wide : (1 ≤ width) × (k.args.from.at + width ≤ length k.args.text.now) × (width ≤ 4)
  wide = at_width _ _ seen

-- the tests that failed, one behind the other
module _ (k : Else-begins_word) where
  word-not : begins_word k.in-Some.c ≡ false
  word-not = sym k.begins_word.ensures ∙ k.if-begins_word.false

module _ (k : Else-is_numeric_digit) where
  digit_not : is_numeric_digit k.in-Some.c ≡ false
  digit_not = sym k.is_numeric_digit.ensures ∙ k.if-is_numeric_digit.false

pub returns-in_default : goal.returns-in_default
returns-in_default c = sym (nothing_more_lem _ _ _ _ (sym c.look_at.ensures ∙ c.in_default.is))

pub overflow_add-next : goal.overflow_add-next
overflow_add-next c = omega (arith, wide (goal.at.overflow_add-next c).In-Some)

pub returns-then-begins_word : goal.returns-then-begins_word
returns-then-begins_word c =
    c.word.ensures ∙ rw c.advanced-place.ensures (sym (finds_word _ _ _ (seen (goal.at.returns-then-begins_word c).In-Some) (sym c.begins_word.ensures ∙ c.if-begins_word.true)))

pub returns-then-is_numeric_digit : goal.returns-then-is_numeric_digit
returns-then-is_numeric_digit c =
    rw (c.end_of-end.ensures.value, c.advanced-place.ensures) (sym (finds_digit _ _ _ (seen (goal.at.returns-then-is_numeric_digit c).In-Some) (word-not (goal.at.returns-then-is_numeric_digit c).Else-begins_word) (sym c.is_numeric_digit.ensures ∙ c.if-is_numeric_digit.true)))

pub returns-then-is_white : goal.returns-then-is_white
returns-then-is_white c =
    c.white.ensures ∙ rw c.advanced-place.ensures (sym (finds_white _ _ _ _ (seen (goal.at.returns-then-is_white c).In-Some) (sym c.is_white.ensures ∙ c.if-is_white.true)))

pub mark-requires : goal.mark-requires
mark-requires c = (wide (goal.at.mark-requires c).In-Some).1

pub returns-else-is_white : goal.returns-else-is_white
returns-else-is_white c =
    c.mark.ensures ∙ rw c.advanced-place.ensures
    (sym (finds_mark _ _ _ (seen (goal.at.returns-else-is_white c).In-Some) (word-not (goal.at.returns-else-is_white c).Else-begins_word) (digit_not (goal.at.returns-else-is_white c).Else-is_numeric_digit) (sym c.is_white.ensures ∙ c.if-is_white.false)))
