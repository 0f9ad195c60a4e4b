-- The encoding of a scalar value is read back by the row of Table 3-7 that has the value.
-- Assumes nothing.
use Rattle.utf8.specs.Looks.{char_found}
use Prim.Native.Nat.{ℕ, suc, ◌+◌, ◌-◌, ◌*◌, ◌/◌, ◌%◌, ◌≤◌}
use native.Mathlib.Omega.{arith}
use mathlib.Core.Bool.{true}
use mathlib.Core.List.{List, [], ◌∷◌, ◌++◌}
use mathlib.Core.Logic.{⊎_elim}
use mathlib.Core.Path.{◌≡◌, ap, ◌∙◌}
use lib.ListN.{length}
use Rattle.basis.proofs.Bounds.{split}
use Rattle.utf8.specs.Table.{Range, within, TableRow, row, table37, further, look_in, look}
use Rattle.utf8.specs.Encode.{is_scalar, encode}
use Rattle.utf8.proofs.Encodes.{scalar_small, scalar_past}
use Rattle.utf8.proofs.Ranges.{within_low, is_within, is_above}
use Rattle.utf8.proofs.Digits.{shift, tails, base, encode_by, tails_length}
use Rattle.utf8.proofs.Rows.{on_low, on_high, lows, highs, Byte, Bytes, Fair, FairRows, fair}

-- ---- further bytes
-- the first digits of a number between the lowest and the highest code point
digits_least : (rs : List Range) (p u c : ℕ) → Bytes p u rs → lows p rs ≤ c → p ≤ shift (length rs) c
digits_least [] p u c k h = h
digits_least (s ∷ rs) p u c k h = let i = digits_least rs (on_low p s) (on_high u s) c k.1 h in omega arith

digits_most : (rs : List Range) (p u c : ℕ) → Bytes p u rs → c ≤ highs u rs → shift (length rs) c ≤ u
digits_most [] p u c k h = h
digits_most (s ∷ rs) p u c k h = let i = digits_most rs (on_low p s) (on_high u s) c k.1 h in omega arith

-- the next one, x % 64, is in its range
digit_within : (s : Range) (p u x : ℕ) → Byte p u s → on_low p s ≤ x → x ≤ on_high u s → within s (0x80 + x % 64) ≡ true
digit_within s p u x k l g =
    ⊎_elim (λ q. let m₁ = k.whole_low q in let m₂ = k.whole_high q in is_within s (0x80 + x % 64) (omega arith) (omega arith))
    (λ q. is_within s (0x80 + x % 64) (omega arith) (omega arith)) (split p u)

on_digit_lem : (y v p x : ℕ) → 0x80 ≤ y → y ≤ 0x80 + x % 64 → v + p ≡ x / 64 → v * 64 + (0x80 + x % 64 - y) + (p * 64 + (y - 0x80)) ≡ x
on_digit_lem y v p x h l d = omega arith

tail_finds : (rs : List Range) (f w v p u c : ℕ) (t : List ℕ) → Bytes p u rs → f ≡ lows p rs → lows p rs ≤ c → c ≤ highs u rs → v + p ≡ shift (length rs) c
    → further f w rs v (tails (length rs) c ++ t) ≡ char_found c w
tail_finds [] f w v p u c t k e l g d = ap (λ (x : ℕ). char_found x w) (omega arith)
tail_finds (s ∷ rs) f w v p u c t k e l g d =
    let x : ℕ = shift (length rs) c in
    let i = digits_least rs (on_low p s) (on_high u s) c k.1 l in
    let j = digits_most rs (on_low p s) (on_high u s) c k.1 g in
    let y = digit_within s p u x k.0 i j in
    rw y
    (tail_finds rs f w (v * 64 + (0x80 + x % 64 - s.low)) (on_low p s) (on_high u s) c t k.1 e l g
    (on_digit_lem s.low v p x k.0.low (within_low s (0x80 + x % 64) y) d))

-- ---- a row
-- the encoding of c is a first byte, b at least, and some further ones, and the rows read c off it
record Finds (b : ℕ) (rows : List TableRow) (t : List ℕ) (c : ℕ) : Type 0 where
  first : ℕ
  others : List ℕ
  bytes : encode c ≡ first ∷ others
  after : b ≤ first
  found : look_in rows (first ∷ others ++ t) ≡ char_found c (length (encode c))

-- its own row
row_finds : {b n from to : ℕ} {r : Range} {rs : List Range} → Fair b n from to r rs → (rows : List TableRow) (t : List ℕ) (c : ℕ) → from ≤ c → c ≤ to
    → Finds b (row from to r rs ∷ rows) t c
row_finds {b} {n} {from} {to} {r} {rs} f rows t c h g =
    let m : ℕ = length rs in
    let p : ℕ = r.low - base m in
    let u : ℕ = r.high - base m in
    let l : lows p rs ≤ c = omega (arith, f.lowest) in
    let k : c ≤ highs u rs = omega (arith, f.highest) in
    let i = digits_least rs p u c f.others l in
    let j = digits_most rs p u c f.others k in
    let d = encode_by m c (omega (arith, f.enough)) (omega (arith, f.few)) in
    let q = is_within r (base m + shift m c) (omega (arith, f.based)) (omega (arith, f.based, f.some)) in
    record {
      first = base m + shift m c;
      others = tails m c;
      bytes = d;
      after = omega (arith, f.bytes_next, f.based);
      found = rw (q, d, tails_length m c)
          (tail_finds rs from (suc m) (base m + shift m c - r.low) p u c t f.others f.lowest l k (omega (arith, f.based)));
    }

-- a later one
later_finds : {b n from to : ℕ} {r : Range} {rs : List Range} {rows : List TableRow} {t : List ℕ} {c : ℕ} → Fair b n from to r rs → Finds (suc r.high) rows t c
    → Finds b (row from to r rs ∷ rows) t c
later_finds {r = r} f i = record {
  first = i.first;
  others = i.others;
  bytes = i.bytes;
  after = omega (arith, f.bytes_next, f.some, i.after);
  found = rw (is_above r i.first i.after) i.found;
}

-- ---- the table
-- no scalar value lies between two rows
next_row : {b n from to : ℕ} {r : Range} {rs : List Range} → Fair b n from to r rs → (c : ℕ) → is_scalar c ≡ true → n ≤ c → from ≤ c
next_row {b} {n} {from} f c s h =
    ⊎_elim (λ k. let m = f.left_out k in let q = scalar_past c s (omega arith) in omega arith) (λ k. omega arith) (split n from)

in_finds : (rows : List TableRow) (b n : ℕ) → FairRows b n rows → (t : List ℕ) (c : ℕ) → is_scalar c ≡ true → n ≤ c → Finds b rows t c
in_finds [] b n f t c s h = absurd (let k = scalar_small c s in omega arith)
in_finds (row from to r rs ∷ rows) b n f t c s h =
    ⊎_elim (λ g. row_finds f.0 rows t c (next_row f.0 c s h) (omega arith))
    (λ g. later_finds f.0 (in_finds rows (suc r.high) (suc to) f.1 t c s g)) (split c (suc to))

pub look_encode : (c : ℕ) (t : List ℕ) → is_scalar c ≡ true → look (encode c ++ t) ≡ char_found c (length (encode c))
unfolding look
look_encode c t s =
    let i = in_finds table37 0 0 fair t c s (omega arith) in
    rw i.bytes (i.found ∙ ap (λ (l : List ℕ). char_found c (length l)) i.bytes)
