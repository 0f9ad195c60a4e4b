-- Whole escapes read at once, for each way through the code. Assumes nothing.
use Rattle.utf8.specs.Looks.{char_found}
use Prim.Native.Char.{code}
use Prim.Native.Nat.{ℕ, ◌+◌, ◌-◌, ◌*◌, ◌≤◌, ◌<◌}
use native.Mathlib.Omega.{arith}
use native.Mathlib.Nat.{add-zero, add_assoc}
use mathlib.Core.Bool.{Bool, true, false}
use mathlib.Core.List.{List}
use mathlib.Core.Path.{◌≡◌, refl, sym, ◌∙◌}
use lib.ListN.{length, get_or}
use Rattle.basis.specs.Pick.{pick}
use Rattle.basis.proofs.Cases.{not_both}
use Rattle.position.specs.declared.Position.{Position}
use Rattle.position.specs.Place.{start, advanced_by}
use Rattle.position.proofs.Moves.{advanced_by_none, advanced_by_more}
use Rattle.utf8.specs.Table.{◌‥◌, within, look_at}
use Rattle.utf8.specs.Encode.{is_scalar}
use Rattle.utf8.proofs.Bits.{look_ascii}
use Rattle.utf8.proofs.Ranges.{within_high}
use Rattle.std.specs.Prelude.{Option, Some}
use Rattle.classes.specs.Class.{digit_of, hex_digit}
use Rattle.classes.proofs.Digits.{digit_found}
use Rattle.chars.specs.Cursors.{cursor}
use Rattle.chars.proofs.Cursors.{ate}
use Rattle.escape.specs.Escapes.{no_char, letter_of, digits_after}
use Rattle.escape.specs.Whole.{DigitsAt, whole_escape, WholeAt, stands, itself}
use Rattle.escape.proofs.Ways.{Counting, counting_start, counting_done, counting_small, counting_more, digits_scalar, escapes_letter, escapes_other, escapes_number}

-- ---- a scalar value is not the number that stands for none
scalar_some : (v : ℕ) → is_scalar v ≡ true → v ≡ no_char → ⊥
unfolding is_scalar
scalar_some v y e = not_both (rw e at y) refl

-- ---- a hex digit is ASCII
digit_ascii : (c : ℕ) → digit_of c < 16 → c < 0x80
unfolding digit_of
digit_ascii c = by (within (code "0" ‥ code "9") c) refl (within (code "A" ‥ code "F") c) refl (within (code "a" ‥ code "f") c) refl
  where
    by : (x : Bool) → within (code "0" ‥ code "9") c ≡ x → (y : Bool) → within (code "A" ‥ code "F") c ≡ y → (z : Bool) → within (code "a" ‥ code "f") c ≡ z
        → pick x (c - code "0") (pick y (c - (code "A" - 10)) (pick z (c - (code "a" - 10)) 16)) < 16 → c < 0x80
    by true p y r z s h = omega (arith, within_high (code "0" ‥ code "9") c p)
    by false p true r z s h = omega (arith, within_high (code "A" ‥ code "F") c r)
    by false p false r true s h = omega (arith, within_high (code "a" ‥ code "f") c s)
    by false p false r false s h = absurd (omega (arith, h))

-- ---- the digits: each takes a byte and a column, so the place is of no account
abbrev pub Counted : List ℕ → ℕ → ℕ → ℕ → ℕ → Type 0
Counted t from n v i = (p : Position) → Counting t n (cursor from p) (cursor (from + i) (advanced_by i p)) v i

pub counted_start : (t : List ℕ) (from n : ℕ) → Counted t from n 0 0
counted_start t from n p = rw (add-zero from, advanced_by_none p) (counting_start t n (cursor from p))

module _ (t : List ℕ) (from n v i : ℕ) (k : Counted t from n v i) where
  pub counted_within : i ≤ n
  counted_within = (k start).within

  pub counted_done : n ≤ i → DigitsAt t from n v
  counted_done h p =
      let z : i ≡ n = omega (arith, counted_within) in
      rw z at (sym (counting_done t n (cursor from p) (cursor (from + i) (advanced_by i p)) v i (k p) h))

  module _ (h : i < n) where
    pub counted_small : n ≤ 8 → v < 268435456
    counted_small g = counting_small t n (cursor from start) (cursor (from + i) (advanced_by i start)) v i (k start) h g

    module _ (w : from + i < length t) {o : Option ℕ} (g : o ≡ hex_digit (get_or t (from + i) 0)) {d : ℕ} (z : o ≡ Some d) where
      seen : look_at t (from + i) ≡ char_found (get_or t (from + i) 0) 1
      seen =
          let q = digit_found (get_or t (from + i) 0) {d = d} (sym z ∙ g) in
          sym (look_ascii t (from + i) w 1 (digit_ascii (get_or t (from + i) 0) (rw (← q.0) q.1)) refl)

      pub counted_more : Counted t from n (v * 16 + d) (i + 1)
      counted_more p =
          rw (sym (add_assoc from i 1), advanced_by_more i p)
          (counting_more t n (cursor from p) (cursor (from + i) (advanced_by i p)) v i (k p) h refl (ate t (cursor (from + i) (advanced_by i p)) seen) g z)

-- ---- the whole
module _ (t : List ℕ) (q at c : ℕ) (b : look_at t at ≡ char_found 0x5C 1) (s : look_at t (at + 1) ≡ char_found c 1) (g : 0x20 ≤ c) {l : ℕ} (e : l ≡ letter_of c) where
  pub whole_letter : (l ≡ no_char → ⊥) → WholeAt t q at (whole_escape l 2)
  whole_letter h = stands {d = l} 0 b s g (λ p. rw (add-zero (at + 2), advanced_by_none p) (sym (escapes_letter t c (cursor (at + 2) p) e h)))

  module _ (h : l ≡ no_char) {n : ℕ} (f : n ≡ digits_after c) where
    pub whole_terminator : n ≡ 0 → c ≡ q → WholeAt t q at (whole_escape q 2)
    whole_terminator z y = itself b (rw y at s) (rw y at g) (λ p. rw y at (sym (escapes_other t c (cursor (at + 2) p) e h f z)))

    pub whole_number : (n ≡ 0 → ⊥) → {v : ℕ} → ((v ≡ no_char → ⊥) → DigitsAt t (at + 2) n v) → {x : Bool} → x ≡ is_scalar v → x ≡ true → WholeAt t q at (whole_escape v (n + 2))
    whole_number z {v} k y u =
        stands {d = v} n b s g (λ p. sym (escapes_number t c (cursor (at + 2) p) e h f z (digits_scalar t n (cursor (at + 2) p) refl (k (scalar_some v (sym y ∙ u)) p) y u)))
