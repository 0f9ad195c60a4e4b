-- What a row of Table 3-7 reads is a scalar value, and what it read is that value's encoding.
-- Assumes nothing.
use Rattle.std.specs.Prelude.{None}
use Prim.Native.Nat.{ℕ, suc, ◌+◌, ◌-◌, ◌*◌, ◌%◌, ◌≤◌, ◌<◌}
use native.Mathlib.Omega.{arith}
use mathlib.Core.Bool.{Bool, true, false}
use mathlib.Core.List.{List, [], ◌∷◌, ◌++◌}
use mathlib.Core.Logic.{⊎_elim}
use mathlib.Core.Path.{◌≡◌, refl, ap, sym}
use lib.ListN.{length, drop, get_or}
use Rattle.basis.specs.Pick.{pick}
use Rattle.basis.proofs.Bounds.{split}
use Rattle.utf8.specs.Table.{Range, ◌‥◌, within, TableRow, row, table37, further, look_in, look}
use Rattle.utf8.specs.Encode.{is_scalar, encode}
use Rattle.utf8.specs.Looks.{Look, char_found}
use Rattle.utf8.proofs.Encodes.{scalar_low, scalar_high}
use Rattle.utf8.proofs.Ranges.{within_low, within_high, is_below, is_above}
use Rattle.std.proofs.lemmas.Option.{some_pair_parts}
use Rattle.utf8.proofs.Digits.{shift, tails, base, encode_by, tails_length, tails_inner}
use Rattle.utf8.proofs.Rows.{on_low, on_high, lows, highs, Byte, Bytes, Fair, FairRows, fair}

-- ---- an answer taken apart
pub no_end : {A : Type 0} {c w : ℕ} → None ≡ char_found c w → A
no_end e = absurd (let z : ◌≡◌ {A = ℕ} 0 1 = cc in omega arith)

code_is : {c w n k : ℕ} → char_found n k ≡ char_found c w → c ≡ n
code_is {c} {w} {n} {k} e = sym (some_pair_parts n c k w e).0

width_is : {c w n k : ℕ} → char_found n k ≡ char_found c w → w ≡ k
width_is {c} {w} {n} {k} e = sym (some_pair_parts n c k w e).1

-- a character that is found only if a test holds
chosen : (t : Bool) {x : Look} {c w : ℕ} → pick t x None ≡ char_found c w → (t ≡ true) × (x ≡ char_found c w)
chosen true e = (refl, e)
chosen false e = no_end e

-- ---- further bytes
-- the n bytes that bs begins with are the last digits of c, which begins with q; c lies between f and h
record Tail (f w n q h : ℕ) (bs : List ℕ) (c w' : ℕ) : Type 0 where
  digits : shift n c ≡ q
  bytes : bs ≡ tails n c ++ drop n bs
  from : f ≤ c
  to : c ≤ h
  width : w' ≡ w

-- one byte, where the row's lowest code point has the digits p so far, and c is v beyond them
module _ (s : Range) (v p u b : ℕ) (k : Byte p u s) (l : s.low ≤ b) (g : b ≤ s.high) where
  on_digit_lem : v * 64 + (b - s.low) + on_low p s ≡ (v + p) * 64 + (b - 0x80)
  on_digit_lem = omega (arith, k.low)

  on_most : v + p ≤ u → v * 64 + (b - s.low) + on_low p s ≤ on_high u s
  on_most h = omega (arith, k.low)

  tail_one : {f w n h : ℕ} {bs : List ℕ} {c w' : ℕ} → Tail f w n (v * 64 + (b - s.low) + on_low p s) h bs c w' → Tail f w (suc n) (v + p) h (b ∷ bs) c w'
  tail_one {n = n} {c = c} i =
      let d : 0x80 + shift n c % 64 ≡ b = omega (arith, k.low, k.high, i.digits, on_digit_lem) in
      record {
        digits = omega (arith, k.low, k.high, i.digits, on_digit_lem);
        bytes = rw d (ap (λ (x : List ℕ). b ∷ x) i.bytes);
        from = i.from;
        to = i.to;
        width = i.width;
      }

tail_read : (rs : List Range) (f w v p u : ℕ) (bs : List ℕ) {c w' : ℕ} → Bytes p u rs → f ≡ lows p rs → v + p ≤ u → further f w rs v bs ≡ char_found c w'
    → Tail f w (length rs) (v + p) (highs u rs) bs c w'
tail_read [] f w v p u bs k e h z =
    let q = code_is z in
    record { digits = omega arith; bytes = refl; from = omega arith; to = omega arith; width = width_is z }
tail_read (s ∷ rs) f w v p u [] k e h z = no_end z
tail_read (s ∷ rs) f w v p u (b ∷ bs) k e h z =
    let y = chosen (within s b) z in
    let l = within_low s b y.0 in
    let g = within_high s b y.0 in
    tail_one s v p u b k.0 l g (tail_read rs f w (v * 64 + (b - s.low)) (on_low p s) (on_high u s) bs k.1 e (on_most s v p u b k.0 l g h) y.1)

-- ---- a row
-- a character that was read off the bytes: a scalar value, whose encoding the bytes begin with; its first byte is not 80..BF, the others are
pub record Reads (bs : List ℕ) (c w : ℕ) : Type 0 where
  pub scalar : is_scalar c ≡ true
  pub bytes : bs ≡ encode c ++ drop w bs
  pub width : length (encode c) ≡ w
  pub opens : within (0x80 ‥ 0xBF) (get_or bs 0 0) ≡ false
  pub inner : (k : ℕ) → 0 < k → k < w → within (0x80 ‥ 0xBF) (get_or bs k 0) ≡ true

module _ {b n from to : ℕ} {r : Range} {rs : List Range} (f : Fair b n from to r rs) where
  row_scalar : (c : ℕ) → from ≤ c → c ≤ to → is_scalar c ≡ true
  row_scalar c h g =
      ⊎_elim (λ l. scalar_low c l)
      (λ k. let m = f.no_surrogate (omega arith) in scalar_high c (omega arith) (omega (arith, f.valid))) (split c 0xD800)

  row_opens : (a : ℕ) → r.low ≤ a → a ≤ r.high → within (0x80 ‥ 0xBF) a ≡ false
  row_opens a l g =
      ⊎_elim (λ k. is_below (0x80 ‥ 0xBF) a k)
      (λ k. let m = f.apart (omega arith) in is_above (0x80 ‥ 0xBF) a (omega arith)) (split a 0x80)

  row_reads : (a : ℕ) (bs : List ℕ) {c w : ℕ} → within r a ≡ true → further from (suc (length rs)) rs (a - r.low) bs ≡ char_found c w → Reads (a ∷ bs) c w
  row_reads a bs {c} {w} e z =
      let l = within_low r a e in
      let g = within_high r a e in
      let h = f.based in
      let m : ℕ = length rs in
      let i = tail_read rs from (suc m) (a - r.low) (r.low - base m) (r.high - base m) bs f.others f.lowest (omega arith) z in
      let j = encode_by m c (omega (arith, f.enough, i.from)) (omega (arith, f.few, f.highest, i.to)) in
      let d : base m + shift m c ≡ a = omega arith in
      rw i.width
      (record {
        scalar = row_scalar c i.from (omega (arith, f.highest, i.to));
        bytes = rw (j, d) (ap (λ (x : List ℕ). a ∷ x) i.bytes);
        width = rw j (ap suc (tails_length m c));
        opens = row_opens a l g;
        inner = tails_inner m c a bs i.bytes;
      })

-- ---- the table
in_reads : (rows : List TableRow) (b n : ℕ) → FairRows b n rows → (bs : List ℕ) {c w : ℕ} → look_in rows bs ≡ char_found c w → Reads bs c w
in_reads [] b n f bs z = no_end z
in_reads (row from to r rs ∷ rows) b n f [] z = no_end z
in_reads (row from to r rs ∷ rows) b n f (a ∷ bs) {c} {w} z = go (within r a) refl z (λ q. in_reads rows (suc r.high) (suc to) f.1 (a ∷ bs) q)
  where
    go : (t : Bool) → within r a ≡ t → pick t (further from (suc (length rs)) rs (a - r.low) bs) (look_in rows (a ∷ bs)) ≡ char_found c w
        → (look_in rows (a ∷ bs) ≡ char_found c w → Reads (a ∷ bs) c w) → Reads (a ∷ bs) c w
    go true e q ih = row_reads f.0 a bs e q
    go false e q ih = ih q

pub look_reads : (bs : List ℕ) {c w : ℕ} → look bs ≡ char_found c w → Reads bs c w
unfolding look
look_reads bs z = in_reads table37 0 0 fair bs z
