-- Escapes, for each way through the code; and that they are read by whole characters. Assumes nothing.
use Prim.Native.Char.{code}
use Prim.Native.Nat.{ℕ, zero, suc, ◌+◌, ◌-◌, ◌*◌, ◌^◌, ◌≤◌, ◌<◌}
use native.Mathlib.Omega.{arith}
use native.Mathlib.Numerals.{add-one}
use native.Mathlib.Nat.{pow-le-pow_right, pow-suc, sub-zero}
use mathlib.Core.Bool.{Bool, true, false}
use mathlib.Core.List.{List}
use mathlib.Core.Path.{◌≡◌, refl, sym, ◌∙◌}
use lib.Dec.{lit≤, leb, eqb}
use borrow.Author.Tests.{le-leb, lt-leb, eq-eqb, ne_eqb}
use Rattle.basis.proofs.Cases.{pick_cases}
use Rattle.utf8.specs.Encode.{is_scalar}
use Rattle.std.specs.Prelude.{Option, Some, None, Err, Ok}
use Rattle.classes.specs.Class.{digit_of, hex_digit}
use Rattle.classes.proofs.Digits.{digit_found, digit_missed}
use Rattle.chars.specs.Cursors.{eat_next_of}
use Rattle.chars.specs.declared.cursor.Cursor.{Cursor}
use Rattle.chars.specs.Takes.{Taken, char_taken}
use Rattle.chars.proofs.Cursors.{ate_took}
use Rattle.escape.specs.Escapes.{no_char, letter_of, digits_after, on_taken, on_digit, digits_from, scalar_of, escaped_of}
use Rattle.escape.specs.Answer.{Digits, valued}
use Rattle.escape.specs.declared.Escaped.{Escaped}
use Rattle.escape.specs.declared.Escaped.TheVariants.{Char, Malformed, Other}
use Rattle.chars.proofs.Reaches.{Reached, there, and_on, took_reached}

-- the letters
module _ (c : ℕ) where
  pub letter_r : c ≡ code "r" → ◌≡◌ {A = ℕ} 0x0D (letter_of c)
  unfolding letter_of
  letter_r e = rw e

  pub letter_n : c ≡ code "n" → ◌≡◌ {A = ℕ} 0x0A (letter_of c)
  unfolding letter_of
  letter_n e = rw e

  pub letter_backslash : c ≡ code "\\" → ◌≡◌ {A = ℕ} (code "\\") (letter_of c)
  unfolding letter_of
  letter_backslash e = rw e

  pub letter_t : c ≡ code "t" → ◌≡◌ {A = ℕ} 0x09 (letter_of c)
  unfolding letter_of
  letter_t e = rw e

  pub no_letter : (c ≡ code "r" → ⊥) → (c ≡ code "n" → ⊥) → (c ≡ code "\\" → ⊥) → (c ≡ code "t" → ⊥) → no_char ≡ letter_of c
  unfolding letter_of
  no_letter r n b t = rw (ne_eqb c (code "r") r, ne_eqb c (code "n") n, ne_eqb c (code "\\") b, ne_eqb c (code "t") t)

  pub after_x : c ≡ code "x" → ◌≡◌ {A = ℕ} 2 (digits_after c)
  unfolding digits_after
  after_x e = rw e

  pub after_u : c ≡ code "u" → ◌≡◌ {A = ℕ} 4 (digits_after c)
  unfolding digits_after
  after_u e = rw e

  pub after_U : c ≡ code "U" → ◌≡◌ {A = ℕ} 8 (digits_after c)
  unfolding digits_after
  after_U e = rw e

  pub after_none : (c ≡ code "x" → ⊥) → (c ≡ code "u" → ⊥) → (c ≡ code "U" → ⊥) → ◌≡◌ {A = ℕ} 0 (digits_after c)
  unfolding digits_after
  after_none x u v = rw (ne_eqb c (code "x") x, ne_eqb c (code "u") u, ne_eqb c (code "U") v)

-- the digits that are left, counted on from what was read, are those from the start; i digits stay below 16 ^ i
pub record Counting (t : List ℕ) (n : ℕ) (from here : Cursor) (v i : ℕ) : Type 0 where
  pub within : i ≤ n
  pub small : v < 16 ^ i
  pub is : digits_from t n 0 from ≡ digits_from t (n - i) v here

pub counting_start : (t : List ℕ) (n : ℕ) (from : Cursor) → Counting t n from from 0 0
counting_start t n from = record { within = omega arith; small = omega arith; is = rw sub-zero }

module _ (t : List ℕ) (n : ℕ) (from here : Cursor) (v i : ℕ) (k : Counting t n from here v i) where
  pub counting_done : n ≤ i → valued v here ≡ digits_from t n 0 from
  unfolding digits_from
  counting_done h = let z : n - i ≡ 0 = omega arith in sym (k.is ∙ rw z)

  module _ (h : i < n) where
    next : n - i ≡ suc (n - (i + 1))
    next = omega arith

    pub counting_small : n ≤ 8 → v < 268435456
    counting_small g = let l : i ≤ 7 = omega arith in let p : 16 ^ i ≤ 268435456 = pow-le-pow_right (lit≤ tt) l in omega (arith, k.small)

    module _ {x : Taken} (e : x ≡ eat_next_of t here) where
      pub counting_cut : x ≡ None → Err here ≡ digits_from t n 0 from
      unfolding digits_from
      counting_cut y = sym (k.is ∙ rw (next, sym e ∙ y))

      module _ {c : ℕ} {to : Cursor} (y : x ≡ char_taken c to) {o : Option ℕ} (g : o ≡ hex_digit c) where
        pub counting_bad : o ≡ None → Err to ≡ digits_from t n 0 from
        unfolding digits_from
        counting_bad z = sym (k.is ∙ rw (next, sym e ∙ y, le-leb 16 (digit_of c) (digit_missed c (sym z ∙ g))))

        pub counting_more : {d : ℕ} → o ≡ Some d → Counting t n from to (v * 16 + d) (i + 1)
        unfolding digits_from
        counting_more {d} z =
            let q = digit_found c {d = d} (sym z ∙ g) in
            record {
              within = omega arith;
              small = let p = k.small in rw (add-one, pow-suc) (omega arith);
              is = k.is ∙ rw (next, sym e ∙ y, ← q.0, lt-leb 16 d q.1);
            }

-- what they make
module _ (t : List ℕ) (n : ℕ) (here : Cursor) {x : Digits} (e : x ≡ digits_from t n 0 here) where
  pub digits_bad : {to : Cursor} → x ≡ Err to → Malformed to ≡ scalar_of (digits_from t n 0 here)
  unfolding scalar_of
  digits_bad y = rw (sym e ∙ y)

  module _ {v : ℕ} {to : Cursor} (y : x ≡ valued v to) {b : Bool} (g : b ≡ is_scalar v) where
    pub digits_scalar : b ≡ true → Char v to ≡ scalar_of (digits_from t n 0 here)
    unfolding scalar_of
    digits_scalar z = rw (sym e ∙ y, sym g ∙ z)

    pub digits_none : b ≡ false → Malformed to ≡ scalar_of (digits_from t n 0 here)
    unfolding scalar_of
    digits_none z = rw (sym e ∙ y, sym g ∙ z)

-- the whole
module _ (t : List ℕ) (c : ℕ) (here : Cursor) {l : ℕ} (e : l ≡ letter_of c) where
  pub escapes_letter : (l ≡ no_char → ⊥) → Char l here ≡ escaped_of t c here
  unfolding escaped_of
  escapes_letter h = rw (← e, ne_eqb l no_char h)

  module _ (h : l ≡ no_char) {n : ℕ} (g : n ≡ digits_after c) where
    pub escapes_other : n ≡ 0 → Other ≡ escaped_of t c here
    unfolding escaped_of
    escapes_other z = rw (← e, eq-eqb l no_char h, ← g, eq-eqb n 0 z)

    pub escapes_number : (n ≡ 0 → ⊥) → {r : Escaped} → r ≡ scalar_of (digits_from t n 0 here) → r ≡ escaped_of t c here
    unfolding escaped_of
    escapes_number z k = rw (k, ← e, eq-eqb l no_char h, ← g, ne_eqb n 0 z)

-- ---- whole characters
abbrev pub ReachedIn : List ℕ → ℕ → Digits → Type 0
ReachedIn t a (Ok (v, here)) = Reached t a here.at
ReachedIn t a (Err here) = Unit {0}

abbrev pub ReachedBy : List ℕ → ℕ → Escaped → Type 0
ReachedBy t a (Char c here) = Reached t a here.at
ReachedBy t a (Malformed here) = Unit {0}
ReachedBy t a Other = Unit {0}

on_reached : {t : List ℕ} {a b : ℕ} (x : Digits) → Reached t a b → ReachedIn t b x → ReachedIn t a x
on_reached (Ok (v, here)) p q = and_on p q
on_reached (Err here) p q = tt

digits_reached : (t : List ℕ) (n v : ℕ) (here : Cursor) → ReachedIn t here.at (digits_from t n v here)
unfolding digits_from
digits_reached t zero v here = there
digits_reached t (suc n) v here = by (eat_next_of t here) refl (λ u next. digits_reached t n u next)
  where
    by : (x : Taken) → eat_next_of t here ≡ x → ((u : ℕ) (next : Cursor) → ReachedIn t next.at (digits_from t n u next))
        → ReachedIn t here.at (on_taken x (λ c next. on_digit (digit_of c) (Err next) (λ d. digits_from t n (v * 16 + d) next)) (Err here))
    by (Some (c, next)) e ih =
        pick_cases (ReachedIn t here.at) (leb 16 (digit_of c)) _ _ (λ _. tt)
        (λ _. on_reached (digits_from t n (v * 16 + digit_of c) next) (took_reached (ate_took t here e)) (ih (v * 16 + digit_of c) next))
    by None e ih = tt

number_reached : (t : List ℕ) (a : ℕ) (x : Digits) → ReachedIn t a x → ReachedBy t a (scalar_of x)
unfolding scalar_of
number_reached t a (Ok (v, here)) p = pick_cases (ReachedBy t a) (is_scalar v) _ _ (λ _. p) (λ _. tt)
number_reached t a (Err here) p = tt

pub escaped_reached : (t : List ℕ) (c : ℕ) (here : Cursor) → ReachedBy t here.at (escaped_of t c here)
unfolding escaped_of
escaped_reached t c here =
    pick_cases (ReachedBy t here.at) (eqb (letter_of c) no_char) _ _
    (λ _. pick_cases (ReachedBy t here.at) (eqb (digits_after c) 0) _ _ (λ _. tt) (λ _. number_reached t here.at (digits_from t (digits_after c) 0 here) (digits_reached t (digits_after c) 0 here)))
    (λ _. there)
