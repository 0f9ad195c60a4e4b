-- What the library prints: the digits are those of `decimal`, and the words of a place those that `write` writes. Assumes nothing.
use Prim.Native.Nat.{ℕ, ◌^◌, ◌<◌}
use native.Mathlib.Omega.{arith}
use mathlib.Core.List.{List, ◌++◌}
use mathlib.Core.Path.{◌≡◌, refl, sym, ap, ◌∙◌}
use lib.Chars.{codes}
use lib.Dec.{eqb}
use borrow.Author.Tests.{eqb-true, eqb-false}
use Rattle.std.specs.Fmt as std
use Rattle.std.proofs.lemmas.Fmt.{decimal_digit, decimal_step}
use Rattle.basis.specs.Words.{word}
use Rattle.std.proofs.lemmas.Grind.{common_steps}
use Rattle.basis.proofs.Cases.{pick_cases}
use Rattle.position.specs.Place.{line_number, column_number, is_none}
use Rattle.position.specs.Words.{display_words, debug_words}
use Rattle.position.specs.declared.Position.{Position}
use Rattle.position.proofs.Small.{Small}
use Rattle.display.specs.Decimal.{digit, decimal}
use Rattle.span.specs.declared.Span.{Span}
use Rattle.span.specs.Spans.{span_start, span_end}
use Rattle.span.specs.Words.{span_words}
use Rattle.display.specs.Forms.{colon_of, long_of, display_of, debug_of, same_line, apart, span_of}
use Rattle.display.proofs.Lines.{up_to_none, from_none, on_two_lines, on_one_line}
use Rattle.display.proofs.Decimals.{decimal_one, decimal_more, by_tens}

pub decimal_is : (n : ℕ) → n < 2 ^ 64 → std.decimal n ≡ decimal n
unfolding digit
decimal_is =
    by_tens (λ n. n < 2 ^ 64 → std.decimal n ≡ decimal n)
    (λ n h b. rw (decimal_one n h) (decimal_digit n h))
    (λ n h e b. rw (decimal_more n h, ← (e (omega arith))) (decimal_step n h b))

-- what `{}` and `{:?}` print of a place is what `write` writes
module _ {p : Position} (h : Small p) where
  line_is : std.decimal (line_number p) ≡ decimal (line_number p)
  line_is = decimal_is _ (let b = h.line in omega arith)

  column_is : std.decimal (column_number p) ≡ decimal (column_number p)
  column_is = decimal_is _ (let b = h.column in omega arith)

  pub display_printed : display_words p ≡ display_of p
  unfolding display_of long_of word
  display_printed = rw (← line_is, ← column_is) refl

  pub debug_printed : debug_words p ≡ debug_of p
  unfolding debug_of colon_of word
  debug_printed = rw (← line_is, ← column_is) refl

-- and of a span
module _ (s : Span) (f : Small (span_start s)) (g : Small (span_end s)) where
  one_line :
      std.decimal (line_number (span_start s)) ++ codes ":" ++ std.decimal (column_number (span_start s)) ++ codes "-" ++ std.decimal (column_number (span_end s))
      ≡ same_line (span_start s) (span_end s)
  unfolding same_line colon_of word
  one_line = rw (line_is f, column_is f, column_is g) (grind (arith, common_steps))

  two_lines : debug_words (span_start s) ++ codes "-" ++ debug_words (span_end s) ≡ apart (span_start s) (span_end s)
  unfolding apart word
  two_lines = rw (debug_printed f, debug_printed g) refl

  pub span_printed : span_words s ≡ span_of s
  unfolding word
  span_printed =
      pick_cases (λ (x : List ℕ). x ≡ span_of s) (is_none (span_end s)) _ _
      (λ e. debug_printed f ∙ sym (up_to_none s refl refl refl e))
      (λ e. pick_cases (λ (x : List ℕ). x ≡ span_of s) (is_none (span_start s)) _ _
      (λ d. ap (λ (x : List ℕ). codes ".." ++ x) (debug_printed g) ∙ sym (from_none s refl refl refl e refl d))
      (λ d. pick_cases (λ (x : List ℕ). x ≡ span_of s) (eqb (line_number (span_start s)) (line_number (span_end s))) _ _
      (λ m. one_line ∙ sym (on_one_line s refl refl refl e refl d refl refl (eqb-true _ _ m)))
      (λ m. two_lines ∙ sym (on_two_lines s refl refl refl e refl d refl refl (eqb-false _ _ m)))))
