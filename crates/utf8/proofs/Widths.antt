-- How wide a character is: by the row of Table 3-7 that has its first byte, and what the width tells of the character.
-- Assumes nothing.
use Rattle.std.specs.Prelude.{None, Some}
use Prim.Native.Nat.{ℕ, suc, ◌+◌, ◌-◌, ◌*◌, ◌≤◌, ◌<◌}
use native.Mathlib.Omega.{arith}
use mathlib.Core.Bool.{Bool, true, false}
use mathlib.Core.List.{List, [], ◌∷◌, ◌++◌}
use mathlib.Core.Logic.{⊎_elim}
use mathlib.Core.Path.{◌≡◌, refl, ap, sym, ◌∙◌}
use lib.ListN.{length, drop, get_or}
use Rattle.basis.specs.Pick.{pick, both}
use Rattle.basis.proofs.Bounds.{at_least, not_most, at_most, not_least, split}
use Rattle.basis.proofs.Bytes.{here, past}
use Rattle.basis.proofs.Cases.{not_both, both_left}
use Rattle.utf8.specs.Table.{Range, ◌‥◌, within, further, look, look_at}
use Rattle.utf8.specs.Bits.{bits_of}
use Rattle.utf8.specs.Widths.{width_of, fits_row, row_width}
use Rattle.utf8.specs.Looks.{Look, char_found}
use Rattle.utf8.proofs.Encodes.{enc1}
use Rattle.utf8.proofs.Ranges.{within_high, is_within}
use Rattle.utf8.proofs.Decodes.{look_reads}
use Rattle.utf8.proofs.Bits.{look_here}
use Rattle.utf8.proofs.Laws.{at_width}

-- ---- the rows
-- a row gives a character where its further bytes are all there
further_width : (rs : List Range) (from w v : ℕ) (bs : List ℕ) → width_of (further from w rs v bs) ≡ pick (fits_row rs bs) w 0
unfolding width_of fits_row
further_width [] from w v bs = refl
further_width (r ∷ rs) from w v [] = refl
further_width (r ∷ rs) from w v (b ∷ bs) =
    let u : ℕ = v * 64 + (b - r.low) in
    by (within r b) (further from w rs u bs) (fits_row rs bs) (further_width rs from w u bs)
  where
    by : (t : Bool) (x : Look) (y : Bool) → width_of x ≡ pick y w 0 → width_of (pick t x None) ≡ pick (both t y) w 0
    by true x y e = e
    by false x y e = refl

-- as the table prints them: a first byte from here to before there, and the ranges of the further bytes
module _ (a : ℕ) (bs : List ℕ) where
  pub row_none : 0x80 ≤ a → a < 0xC2 → width_of (look (a ∷ bs)) ≡ 0
  unfolding width_of look
  row_none h g = simp (at_least a 0x80 h, not_most a 0x80 h, at_most a 0xC2 g, not_least a 0xC2 g, tt {0})

  pub row_two : 0xC2 ≤ a → a < 0xE0 → width_of (look (a ∷ bs)) ≡ row_width (0x80 ‥ 0xBF ∷ []) bs
  unfolding look
  row_two h g = simp (at_least a 0xC2 h, not_most a 0xC2 h, at_most a 0xE0 g, not_least a 0xE0 g, tt {0}) (further_width (0x80 ‥ 0xBF ∷ []) 0x80 2 (a - 0xC2) bs)

  pub row_three_low : 0xE0 ≤ a → a < 0xE1 → width_of (look (a ∷ bs)) ≡ row_width (0xA0 ‥ 0xBF ∷ 0x80 ‥ 0xBF ∷ []) bs
  unfolding look
  row_three_low h g = simp (at_least a 0xE0 h, not_most a 0xE0 h, at_most a 0xE1 g, not_least a 0xE1 g, tt {0}) (further_width (0xA0 ‥ 0xBF ∷ 0x80 ‥ 0xBF ∷ []) 0x0800 3 (a - 0xE0) bs)

  pub row_three : 0xE1 ≤ a → a < 0xED → width_of (look (a ∷ bs)) ≡ row_width (0x80 ‥ 0xBF ∷ 0x80 ‥ 0xBF ∷ []) bs
  unfolding look
  row_three h g = simp (at_least a 0xE1 h, not_most a 0xE1 h, at_most a 0xED g, not_least a 0xED g, tt {0}) (further_width (0x80 ‥ 0xBF ∷ 0x80 ‥ 0xBF ∷ []) 0x1000 3 (a - 0xE1) bs)

  pub row_three_high : 0xED ≤ a → a < 0xEE → width_of (look (a ∷ bs)) ≡ row_width (0x80 ‥ 0x9F ∷ 0x80 ‥ 0xBF ∷ []) bs
  unfolding look
  row_three_high h g = simp (at_least a 0xED h, not_most a 0xED h, at_most a 0xEE g, not_least a 0xEE g, tt {0}) (further_width (0x80 ‥ 0x9F ∷ 0x80 ‥ 0xBF ∷ []) 0xD000 3 (a - 0xED) bs)

  pub row_three_last : 0xEE ≤ a → a < 0xF0 → width_of (look (a ∷ bs)) ≡ row_width (0x80 ‥ 0xBF ∷ 0x80 ‥ 0xBF ∷ []) bs
  unfolding look
  row_three_last h g = simp (at_least a 0xEE h, not_most a 0xEE h, at_most a 0xF0 g, not_least a 0xF0 g, tt {0}) (further_width (0x80 ‥ 0xBF ∷ 0x80 ‥ 0xBF ∷ []) 0xE000 3 (a - 0xEE) bs)

  pub row_four_low : 0xF0 ≤ a → a < 0xF1 → width_of (look (a ∷ bs)) ≡ row_width (0x90 ‥ 0xBF ∷ 0x80 ‥ 0xBF ∷ 0x80 ‥ 0xBF ∷ []) bs
  unfolding look
  row_four_low h g = simp (at_least a 0xF0 h, not_most a 0xF0 h, at_most a 0xF1 g, not_least a 0xF1 g, tt {0}) (further_width (0x90 ‥ 0xBF ∷ 0x80 ‥ 0xBF ∷ 0x80 ‥ 0xBF ∷ []) 0x10000 4 (a - 0xF0) bs)

  pub row_four : 0xF1 ≤ a → a < 0xF4 → width_of (look (a ∷ bs)) ≡ row_width (0x80 ‥ 0xBF ∷ 0x80 ‥ 0xBF ∷ 0x80 ‥ 0xBF ∷ []) bs
  unfolding look
  row_four h g = simp (at_least a 0xF1 h, not_most a 0xF1 h, at_most a 0xF4 g, not_least a 0xF4 g, tt {0}) (further_width (0x80 ‥ 0xBF ∷ 0x80 ‥ 0xBF ∷ 0x80 ‥ 0xBF ∷ []) 0x40000 4 (a - 0xF1) bs)

  pub row_four_high : 0xF4 ≤ a → a < 0xF5 → width_of (look (a ∷ bs)) ≡ row_width (0x80 ‥ 0x8F ∷ 0x80 ‥ 0xBF ∷ 0x80 ‥ 0xBF ∷ []) bs
  unfolding look
  row_four_high h g = simp (at_least a 0xF4 h, not_most a 0xF4 h, at_most a 0xF5 g, tt {0}) (further_width (0x80 ‥ 0x8F ∷ 0x80 ‥ 0xBF ∷ 0x80 ‥ 0xBF ∷ []) 0x100000 4 (a - 0xF4) bs)

  pub row_beyond : 0xF5 ≤ a → width_of (look (a ∷ bs)) ≡ 0
  unfolding width_of look
  row_beyond h = simp (at_least a 0xF5 h, not_most a 0xF5 h, tt {0})

-- ---- the further bytes of a row, one by one
module _ (t : List ℕ) (at k : ℕ) (r : Range) (rs : List Range) where
  -- one is there, and then the others tell
  pub fits_on : fits_row (r ∷ []) (drop (at + k) t) ≡ true → fits_row (r ∷ rs) (drop (at + k) t) ≡ fits_row rs (drop (at + suc k) t)
  unfolding fits_row
  fits_on y = ⊎_elim there (λ h. not_both y (missing h)) (split (at + k) (length t))
    where
      missing : length t ≤ at + k → fits_row (r ∷ []) (drop (at + k) t) ≡ false
      missing h = rw (past t (at + k) h)

      there : at + k < length t → fits_row (r ∷ rs) (drop (at + k) t) ≡ fits_row rs (drop (at + suc k) t)
      there h =
          let b : ℕ = get_or t (at + k) 0 in
          let q : at + k + 1 ≡ at + suc k = omega arith in
          rw (here t (at + k) h, both_left (within r b) true (ap (fits_row (r ∷ [])) (sym (here t (at + k) h)) ∙ y), q)

  -- it is not
  pub fits_not : fits_row (r ∷ []) (drop (at + k) t) ≡ false → fits_row (r ∷ rs) (drop (at + k) t) ≡ false
  unfolding fits_row
  fits_not = by (drop (at + k) t)
    where
      by : (bs : List ℕ) → fits_row (r ∷ []) bs ≡ false → fits_row (r ∷ rs) bs ≡ false
      by [] e = refl
      by (b ∷ bs) e = on (within r b) e
        where
          on : (x : Bool) → both x true ≡ false → both x (fits_row rs bs) ≡ false
          on true z = not_both refl z
          on false z = refl

-- a further byte has six bits
pub fits_bits : (bs : List ℕ) (b : ℕ) → b ≡ bits_of bs → b < 64 → fits_row (0x80 ‥ 0xBF ∷ []) bs ≡ true
unfolding fits_row
fits_bits [] b e h = absurd (omega arith)
fits_bits (x ∷ bs) b e h = by (within (0x80 ‥ 0xBF) x) e
  where
    by : (t : Bool) → b ≡ pick t (x - 0x80) 64 → both t true ≡ true
    by true q = refl
    by false q = absurd (omega arith)

-- from 90 on they are sixteen or more
pub fits_bits_from : (bs : List ℕ) (b : ℕ) → b ≡ bits_of bs → 16 ≤ b → b < 64 → fits_row (0x90 ‥ 0xBF ∷ []) bs ≡ true
unfolding fits_row
fits_bits_from [] b e l h = absurd (omega arith)
fits_bits_from (x ∷ bs) b e l h = by (within (0x80 ‥ 0xBF) x) refl e
  where
    by : (t : Bool) → within (0x80 ‥ 0xBF) x ≡ t → b ≡ pick t (x - 0x80) 64 → both (within (0x90 ‥ 0xBF) x) true ≡ true
    by true p q = rw (is_within (0x90 ‥ 0xBF) x (omega arith) (within_high (0x80 ‥ 0xBF) x p))
    by false p q = absurd (omega arith)

pub fits_no_bits : (bs : List ℕ) (b : ℕ) → b ≡ bits_of bs → 63 < b → fits_row (0x80 ‥ 0xBF ∷ []) bs ≡ false
unfolding fits_row
fits_no_bits [] b e h = refl
fits_no_bits (x ∷ bs) b e h = by (within (0x80 ‥ 0xBF) x) refl e
  where
    by : (t : Bool) → within (0x80 ‥ 0xBF) x ≡ t → b ≡ pick t (x - 0x80) 64 → both t true ≡ false
    by true p q = absurd (omega (arith, within_high (0x80 ‥ 0xBF) x p))
    by false p q = refl

-- ---- what the width tells
width_found : (x : Look) (w : ℕ) → w ≡ width_of x → (w ≡ 0 → ⊥) → (c : ℕ) × (x ≡ char_found c w)
unfolding width_of
width_found (Some (c, v)) w e n = (c, ap (char_found c) (sym e))
width_found None w e n = absurd (n e)

pub char_width : {x : Look} {c w : ℕ} → x ≡ char_found c w → w ≡ width_of x
unfolding width_of
char_width e = rw e

pub end_width : {x : Look} → x ≡ None → 0 ≡ width_of x
unfolding width_of
end_width e = rw e

module _ (s : List ℕ) (at : ℕ) (h : at < length s) {w : ℕ} (e : w ≡ width_of (look (get_or s at 0 ∷ drop (at + 1) s))) where
  -- a character is there
  pub wide_char : (w ≡ 0 → ⊥) → (c : ℕ) × (look_at s at ≡ char_found c w)
  wide_char n = width_found (look_at s at) w (e ∙ ap width_of (look_here s at h)) n

  -- none is
  pub wide_none : w ≡ 0 → look_at s at ≡ None
  unfolding width_of
  wide_none z = by (look_at s at) refl
    where
      by : (x : Look) → look_at s at ≡ x → x ≡ None
      by (Some (c, v)) f = absurd (omega (arith, at_width s at f, sym z ∙ e ∙ ap width_of (look_here s at h ∙ f)))
      by None f = refl

-- a byte above 7F begins a character above 7F
pub look_high : (a : ℕ) (bs : List ℕ) {c w : ℕ} → 0x80 ≤ a → look (a ∷ bs) ≡ char_found c w → 0x80 ≤ c
look_high a bs {c} {w} h e = ⊎_elim low (λ g. g) (split c 0x80)
  where
    head_is : {a b : ℕ} {xs ys : List ℕ} → a ∷ xs ≡ b ∷ ys → a ≡ b
    head_is e = cc

    low : c < 0x80 → 0x80 ≤ c
    low g = absurd (omega (arith, head_is ((look_reads (a ∷ bs) e).bytes ∙ ap (λ (l : List ℕ). l ++ drop w (a ∷ bs)) (enc1 c g))))

pub at_high : (s : List ℕ) (at : ℕ) {c w : ℕ} → 0x80 ≤ get_or s at 0 → look_at s at ≡ char_found c w → 0x80 ≤ c
at_high s at h e = let r = at_width s at e in look_high (get_or s at 0) (drop (at + 1) s) h (look_here s at (omega arith) ∙ e)
