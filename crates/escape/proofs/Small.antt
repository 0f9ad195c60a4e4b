-- An escape ends at a small place within the text where its start is one. Assumes nothing.
use Rattle.std.specs.Prelude.{Err, None, Ok, Some}
use Prim.Native.Nat.{ℕ, zero, suc, ◌+◌, ◌*◌}
use mathlib.Core.List.{List}
use lib.Dec.{eqb, leb}
use Rattle.basis.proofs.Cases.{pick_cases}
use Rattle.utf8.specs.Encode.{is_scalar}
use Rattle.classes.specs.Class.{digit_of}
use Rattle.chars.specs.Cursors.{eat_next_of}
use Rattle.chars.specs.declared.cursor.Cursor.{Cursor}
use Rattle.chars.specs.Takes.{Taken}
use Rattle.chars.proofs.Small.{In, TakenIn, ate_in}
use Rattle.escape.specs.Escapes.{no_char, letter_of, digits_after, on_taken, on_digit, digits_from, scalar_of, escaped_of}
use Rattle.escape.specs.Answer.{Digits}
use Rattle.escape.specs.declared.Escaped.{Escaped}
use Rattle.escape.specs.declared.Escaped.TheVariants.{Char, Malformed, Other}

module _ (t : List ℕ) where
  abbrev DigitsIn : Digits → Type 0
  DigitsIn (Ok (v, c)) = In t c
  DigitsIn (Err c) = In t c

  abbrev pub EscapedIn : Escaped → Type 0
  EscapedIn (Char d c) = In t c
  EscapedIn (Malformed c) = In t c
  EscapedIn Other = Unit {0}

  digits_in : (n v : ℕ) (here : Cursor) → In t here → DigitsIn (digits_from t n v here)
  unfolding digits_from
  digits_in zero v here h = h
  digits_in (suc n) v here h = by (eat_next_of t here) (ate_in t here h.0) (λ v c k. digits_in n v c k)
    where
      by : (x : Taken) → TakenIn t x → ((v : ℕ) (c : Cursor) → In t c → DigitsIn (digits_from t n v c))
          → DigitsIn (on_taken x (λ c next. on_digit (digit_of c) (Err next) (λ d. digits_from t n (v * 16 + d) next)) (Err here))
      by (Some (c, next)) k ih = pick_cases DigitsIn (leb 16 (digit_of c)) _ _ (λ y. k) (λ z. ih (v * 16 + digit_of c) next k)
      by None k ih = h

  number_in : (x : Digits) → DigitsIn x → EscapedIn (scalar_of x)
  unfolding scalar_of
  number_in (Ok (v, c)) h = pick_cases EscapedIn (is_scalar v) _ _ (λ y. h) (λ n. h)
  number_in (Err c) h = h

  pub escaped_in : (c : ℕ) (here : Cursor) → In t here → EscapedIn (escaped_of t c here)
  unfolding escaped_of
  escaped_in c here h =
      pick_cases EscapedIn (eqb (letter_of c) no_char) _ _
      (λ y. pick_cases EscapedIn (eqb (digits_after c) 0) _ _ (λ z. tt) (λ z. number_in (digits_from t (digits_after c) 0 here) (digits_in (digits_after c) 0 here h)))
      (λ n. h)
