-- A character by its bits: what the code joins, byte after byte, is the character that Table 3-7 gives, since Table 3-6 gives those bytes for it.
-- Assumes nothing.
use Rattle.std.specs.Prelude.{None, Some}
use Prim.Native.Nat.{ℕ, zero, suc, ◌+◌, ◌-◌, ◌*◌, ◌%◌, ◌^◌, ◌≤◌, ◌<◌}
use native.Mathlib.Nat.{pow-suc, pow-le-pow_right}
use native.Mathlib.Numerals.{add-one}
use native.Mathlib.Omega.{arith}
use mathlib.Core.Bool.{Bool, true, false}
use mathlib.Core.List.{List, [], ◌∷◌, ◌++◌}
use mathlib.Core.Logic.{⊎_elim}
use mathlib.Core.Path.{◌≡◌, refl, ap, sym, ◌∙◌}
use lib.Dec.{leb}
use lib.ListN.{length, drop, get_or}
use lib.Seq.{drop-drop}
use borrow.Author.Tests.{le-leb, leb-true}
use Rattle.basis.specs.Pick.{pick}
use Rattle.basis.proofs.Bounds.{split}
use Rattle.basis.proofs.Bytes.{here}
use Rattle.basis.proofs.Cases.{not_both}
use Rattle.utf8.specs.Table.{◌‥◌, within, look, look_at}
use Rattle.utf8.specs.Encode.{is_scalar, encode}
use Rattle.utf8.specs.Bits.{bits_of, joined_of, whole_of, sized_of}
use Rattle.utf8.specs.Looks.{Look, char_found}
use Rattle.utf8.proofs.Encodes.{scalar_low, scalar_small, enc1}
use Rattle.utf8.proofs.Ranges.{within_low, within_high, is_within}
use Rattle.utf8.proofs.Digits.{shift, tails, base, least, past, encode_by, tails_length}
use Rattle.utf8.proofs.Decodes.{no_end, Reads, look_reads}
use Rattle.utf8.proofs.Finds.{look_encode}

-- ---- further bytes and digits
-- bytes that were joined are the last digits of the number they make
joined_digits : (c : ℕ) → 0 < c → (n v : ℕ) (bs : List ℕ) → joined_of n v bs ≡ c → (shift n c ≡ v) × (bs ≡ tails n c ++ drop n bs)
joined_digits c h zero v bs e = (sym e, refl)
joined_digits c h (suc n) v [] e = absurd (omega arith)
joined_digits c h (suc n) v (b ∷ bs) e = go (within (0x80 ‥ 0xBF) b) refl e (joined_digits c h n (v * 64 + (b - 0x80)) bs)
  where
    go : (t : Bool) → within (0x80 ‥ 0xBF) b ≡ t → pick t (joined_of n (v * 64 + (b - 0x80)) bs) 0 ≡ c
        → (joined_of n (v * 64 + (b - 0x80)) bs ≡ c → (shift n c ≡ v * 64 + (b - 0x80)) × (bs ≡ tails n c ++ drop n bs))
        → (shift (suc n) c ≡ v) × (b ∷ bs ≡ tails (suc n) c ++ drop (suc n) (b ∷ bs))
    go true p q ih =
        let l = within_low (0x80 ‥ 0xBF) b p in
        let g = within_high (0x80 ‥ 0xBF) b p in
        let i = ih q in
        let d : 0x80 + shift n c % 64 ≡ b = omega (arith, i.0) in
        (omega (arith, i.0), rw d (ap (λ (x : List ℕ). b ∷ x) i.1))
    go false p q ih = absurd (omega arith)

-- and a number's last digits join to the number
joined_tails : (n c : ℕ) (bs : List ℕ) → joined_of n (shift n c) (tails n c ++ bs) ≡ c
joined_tails zero c bs = refl
joined_tails (suc n) c bs =
    rw (is_within (0x80 ‥ 0xBF) (0x80 + shift n c % 64) (omega arith) (omega arith))
    (ap (λ (v : ℕ). joined_of n v (tails n c ++ bs)) (omega arith) ∙ joined_tails n c bs)

-- ---- how many further bytes
-- every scalar value has its number of them
sizes : (c : ℕ) → c < 0x110000 → (m : ℕ) × (least m ≤ c) × (c < past m)
sizes c s =
    ⊎_elim (λ g. (0, omega arith, g)) (λ h.
    ⊎_elim (λ g. (1, h, g)) (λ k.
    ⊎_elim (λ g. (2, k, g)) (λ m. (3, m, s))
    (split c 0x10000)) (split c 0x800)) (split c 0x80)

-- the first bytes with n of them end before
abbrev top : ℕ → ℕ
top zero = 0x80
top (suc zero) = 0xE0
top (suc (suc zero)) = 0xF0
top (suc (suc (suc zero))) = 0xF8
top (suc (suc (suc (suc n)))) = 0

-- the first byte of an encoding lies there
first_in_lem : (m c : ℕ) → least m ≤ c → c < past m → (base m ≤ base m + shift m c) × (base m + shift m c < top m)
first_in_lem zero c h g = (omega arith, omega arith)
first_in_lem (suc zero) c h g = (omega arith, omega arith)
first_in_lem (suc (suc zero)) c h g = (omega arith, omega arith)
first_in_lem (suc (suc (suc zero))) c h g = (omega arith, omega arith)
first_in_lem (suc (suc (suc (suc m)))) c h g = absurd (omega arith)

-- and so it tells the number
agree : (n m a : ℕ) → base n ≤ a → a < top n → base m ≤ a → a < top m → 0 < n → 0x80 ≤ a → m ≡ n
agree zero m a h g k l s t = absurd (omega arith)
agree (suc zero) zero a h g k l s t = absurd (omega arith)
agree (suc zero) (suc zero) a h g k l s t = refl
agree (suc zero) (suc (suc zero)) a h g k l s t = absurd (omega arith)
agree (suc zero) (suc (suc (suc zero))) a h g k l s t = absurd (omega arith)
agree (suc zero) (suc (suc (suc (suc m)))) a h g k l s t = absurd (omega arith)
agree (suc (suc zero)) zero a h g k l s t = absurd (omega arith)
agree (suc (suc zero)) (suc zero) a h g k l s t = absurd (omega arith)
agree (suc (suc zero)) (suc (suc zero)) a h g k l s t = refl
agree (suc (suc zero)) (suc (suc (suc zero))) a h g k l s t = absurd (omega arith)
agree (suc (suc zero)) (suc (suc (suc (suc m)))) a h g k l s t = absurd (omega arith)
agree (suc (suc (suc zero))) zero a h g k l s t = absurd (omega arith)
agree (suc (suc (suc zero))) (suc zero) a h g k l s t = absurd (omega arith)
agree (suc (suc (suc zero))) (suc (suc zero)) a h g k l s t = absurd (omega arith)
agree (suc (suc (suc zero))) (suc (suc (suc zero))) a h g k l s t = refl
agree (suc (suc (suc zero))) (suc (suc (suc (suc m)))) a h g k l s t = absurd (omega arith)
agree (suc (suc (suc (suc n)))) m a h g k l s t = absurd (omega arith)

-- few bits make a small number
few_bits : (n c : ℕ) → 0 < n → base n + shift n c < top n → is_scalar c ≡ true → c < past n
few_bits zero c p h s = absurd (omega arith)
few_bits (suc zero) c p h s = omega arith
few_bits (suc (suc zero)) c p h s = omega arith
few_bits (suc (suc (suc zero))) c p h s = scalar_small c s
few_bits (suc (suc (suc (suc n)))) c p h s = absurd (omega arith)

-- ---- the character
head_is : {a b : ℕ} {xs ys : List ℕ} → a ∷ xs ≡ b ∷ ys → a ≡ b
head_is e = cc

tail_is : {a b : ℕ} {xs ys : List ℕ} → a ∷ xs ≡ b ∷ ys → xs ≡ ys
tail_is e = cc

module _ (a : ℕ) (bs : List ℕ) where
  -- a character that was read begins with the first byte of its encoding
  module _ {c w : ℕ} (r : Reads (a ∷ bs) c w) (m : ℕ) (h : least m ≤ c) (g : c < past m) where
    read_bytes : a ∷ bs ≡ (base m + shift m c) ∷ (tails m c ++ drop w (a ∷ bs))
    read_bytes = r.bytes ∙ ap (λ (l : List ℕ). l ++ drop w (a ∷ bs)) (encode_by m c h g)

    read_width : m + 1 ≡ w
    read_width = omega (arith, tails_length m c, ap length (encode_by m c h g), r.width)

  -- no character is read
  none_read : ((c w : ℕ) → Reads (a ∷ bs) c w → ⊥) → look (a ∷ bs) ≡ None
  none_read never = go (look (a ∷ bs)) refl
    where
      go : (x : Look) → look (a ∷ bs) ≡ x → x ≡ None
      go (Some (c, w)) e = absurd (never c w (look_reads (a ∷ bs) e))
      go None e = refl

  -- no character begins with 80..BF, nor with F8 and above
  pub look_inside : 0x80 ≤ a → a < 0xC0 → look (a ∷ bs) ≡ None
  look_inside h g = none_read (λ c w r. not_both (is_within (0x80 ‥ 0xBF) a h (omega arith)) r.opens)

  pub look_beyond : 0xF8 ≤ a → look (a ∷ bs) ≡ None
  look_beyond h = none_read beyond
    where
      past_top : (m : ℕ) → a < top m → ⊥
      past_top zero g = omega arith
      past_top (suc zero) g = omega arith
      past_top (suc (suc zero)) g = omega arith
      past_top (suc (suc (suc zero))) g = omega arith
      past_top (suc (suc (suc (suc m)))) g = omega arith

      beyond : (c w : ℕ) → Reads (a ∷ bs) c w → ⊥
      beyond c w r =
          let z = sizes c (scalar_small c r.scalar) in
          let i = first_in_lem z.0 c z.1 z.2 in
          past_top z.0 (omega (arith, head_is (read_bytes r z.0 z.1 z.2), i.1))

  module _ (n : ℕ) (p : 0 < n) (k : 0x80 ≤ a) (z : 0 < least n) (l : base n ≤ a) (g : a < top n) where
    -- what the bits make is read
    bits_read : (c : ℕ) → joined_of n (a - base n) bs ≡ c → least n ≤ c → is_scalar c ≡ true → look (a ∷ bs) ≡ char_found c (n + 1)
    bits_read c e h s =
        let d = joined_digits c (omega arith) n (a - base n) bs e in
        let f : base n + shift n c ≡ a = omega (arith, d.0) in
        let j = encode_by n c h (few_bits n c p (omega arith) s) in
        let q : a ∷ bs ≡ encode c ++ drop n bs = rw (j, f) (ap (λ (x : List ℕ). a ∷ x) d.1) in
        ap look q ∙ look_encode c (drop n bs) s ∙ ap (λ (w : ℕ). char_found c w) (omega (arith, tails_length n c, ap length j))

    -- what is read, the bits make
    read_bits : (c w : ℕ) → Reads (a ∷ bs) c w → (joined_of n (a - base n) bs ≡ c) × (least n ≤ c) × (n + 1 ≡ w)
    read_bits c w r =
        let y = sizes c (scalar_small c r.scalar) in
        let i = first_in_lem y.0 c y.1 y.2 in
        let b = read_bytes r y.0 y.1 y.2 in
        let f = head_is b in
        let m = agree n y.0 a l g (omega arith) (omega arith) p k in
        made y.0 m f (tail_is b) y.1 (read_width r y.0 y.1 y.2)
      where
        made : (m : ℕ) → m ≡ n → a ≡ base m + shift m c → bs ≡ tails m c ++ drop w (a ∷ bs) → least m ≤ c → m + 1 ≡ w
            → (joined_of n (a - base n) bs ≡ c) × (least n ≤ c) × (n + 1 ≡ w)
        made m e f t h q = rw (← e)
            (ap (λ (v : ℕ). joined_of m v bs) (omega arith) ∙ ap (joined_of m (shift m c)) t ∙ joined_tails m c (drop w (a ∷ bs)), h, q)

    pub sized_look : sized_of n (a - base n) (least n) bs ≡ look (a ∷ bs)
    unfolding sized_of
    sized_look = go (look (a ∷ bs)) refl
      where
        c : ℕ
        c = joined_of n (a - base n) bs

        none : (s t : Bool) → leb (least n) c ≡ s → is_scalar c ≡ t → look (a ∷ bs) ≡ None → pick s (pick t (char_found c (n + 1)) None) None ≡ None
        none true true q y e = no_end (sym e ∙ bits_read c refl (leb-true (least n) c q) y)
        none true false q y e = refl
        none false t q y e = refl

        go : (x : Look) → look (a ∷ bs) ≡ x → whole_of (least n) (n + 1) c ≡ x
        go (Some (d, w)) e =
            let r = look_reads (a ∷ bs) e in
            let i = read_bits d w r in
            rw (i.0, le-leb (least n) d i.1, r.scalar, i.2)
        go None e = none (leb (least n) c) (is_scalar c) refl refl e

-- ---- a look at an offset
module _ (s : List ℕ) (at : ℕ) (h : at < length s) where
  -- a byte below 80 is a character of one byte
  pub look_ascii : (w : ℕ) → get_or s at 0 < 0x80 → w ≡ 1 → char_found (get_or s at 0) w ≡ look_at s at
  unfolding look_at
  look_ascii w g e =
      rw (e, here s at h)
      (sym (ap (λ (l : List ℕ). look (l ++ drop (at + 1) s)) (sym (enc1 (get_or s at 0) g))
      ∙ look_encode (get_or s at 0) (drop (at + 1) s) (scalar_low (get_or s at 0) (omega arith))
      ∙ ap (λ (l : List ℕ). char_found (get_or s at 0) (length l)) (enc1 (get_or s at 0) g)))

  -- any other is the first of a longer one
  pub look_here : look (get_or s at 0 ∷ drop (at + 1) s) ≡ look_at s at
  unfolding look_at
  look_here = rw (here s at h)

-- ---- the loop over the further bytes
module _ (v : ℕ) where
  joined_step : (n : ℕ) (bs : List ℕ) (b : ℕ) → b ≡ bits_of bs → b < 64 → joined_of (suc n) v bs ≡ joined_of n (v * 64 + b) (drop 1 bs)
  joined_step n [] b e h = absurd (omega arith)
  joined_step n (x ∷ bs) b e h = go (within (0x80 ‥ 0xBF) x) e
    where
      go : (t : Bool) → b ≡ pick t (x - 0x80) 64 → pick t (joined_of n (v * 64 + (x - 0x80)) bs) 0 ≡ joined_of n (v * 64 + b) bs
      go true q = rw q
      go false q = absurd (omega arith)

  joined_out : (n : ℕ) (bs : List ℕ) (b : ℕ) → b ≡ bits_of bs → 63 < b → joined_of (suc n) v bs ≡ 0
  joined_out n [] b e h = refl
  joined_out n (x ∷ bs) b e h = go (within (0x80 ‥ 0xBF) x) refl e
    where
      go : (t : Bool) → within (0x80 ‥ 0xBF) x ≡ t → b ≡ pick t (x - 0x80) 64 → pick t (joined_of n (v * 64 + (x - 0x80)) bs) 0 ≡ 0
      go true p q = absurd (omega (arith, within_high (0x80 ‥ 0xBF) x p))
      go false p q = refl

-- what holds before the further byte i of n
pub record Joining (t : List ℕ) (at n first v i : ℕ) : Type 0 where
  pub few : n ≤ 3
  pub turn : i ≤ n + 1
  pub small : (v + 1) * 2 ≤ 64 ^ i
  pub is : joined_of n first (drop (at + 1) t) ≡ joined_of (n + 1 - i) v (drop (at + i) t)

pub start : (t : List ℕ) (at n first : ℕ) → n ≤ 3 → first < 32 → Joining t at n first first 1
start t at n first h g =
    let e : n ≡ n + 1 - 1 = omega arith in
    record {
      few = h;
      turn = omega arith;
      small = omega arith;
      is = ap (λ (k : ℕ). joined_of k first (drop (at + 1) t)) e;
    }

module _ {t : List ℕ} {at n first v i : ℕ} (g : Joining t at n first v i) where
  module _ (h : i ≤ n) (b : ℕ) (e : b ≡ bits_of (drop (at + i) t)) where
    left : joined_of (n + 1 - i) v (drop (at + i) t) ≡ joined_of (suc (n + 1 - (i + 1))) v (drop (at + i) t)
    left = let q : n + 1 - i ≡ suc (n + 1 - (i + 1)) = omega arith in ap (λ (k : ℕ). joined_of k v (drop (at + i) t)) q

    pub step : b < 64 → Joining t at n first (v * 64 + b) (i + 1)
    step l =
        let q : at + i + 1 ≡ at + (i + 1) = omega arith in
        record {
          few = g.few;
          turn = omega arith;
          small = rw (add-one i, pow-suc 64 i) (omega (arith, g.small));
          is = g.is ∙ left ∙ joined_step v (n + 1 - (i + 1)) (drop (at + i) t) b e l
              ∙ ap (λ (x : List ℕ). joined_of (n + 1 - (i + 1)) (v * 64 + b) x) (drop-drop 1 (at + i) t)
              ∙ ap (λ (k : ℕ). joined_of (n + 1 - (i + 1)) (v * 64 + b) (drop k t)) q;
        }

    pub out : 63 < b → joined_of n first (drop (at + 1) t) ≡ 0
    out l = g.is ∙ left ∙ joined_out v (n + 1 - (i + 1)) (drop (at + i) t) b e l

  pub done : n < i → joined_of n first (drop (at + 1) t) ≡ v
  done h = let q : n + 1 - i ≡ 0 = omega arith in g.is ∙ ap (λ (k : ℕ). joined_of k v (drop (at + i) t)) q

  pub fits : v < 0x800000
  fits = let four : i ≤ 4 = omega (arith, g.turn, g.few) in let p : 64 ^ i ≤ 64 ^ 4 = pow-le-pow_right (omega arith) four in omega (arith, g.small)
