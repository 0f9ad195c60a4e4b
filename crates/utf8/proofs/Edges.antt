-- Where characters begin: in a well-formed text an edge is told by one byte, a character begins at each edge before the end, and ends at one.
-- Assumes nothing.
use Rattle.utf8.specs.Looks.{char_found}
use Rattle.std.specs.Prelude.{None}
use Prim.Native.Nat.{ℕ, zero, suc, ◌+◌, ◌-◌, ◌≤◌, ◌<◌}
use native.Mathlib.Omega.{arith}
use native.Mathlib.Nat.{zero-add, add_assoc}
use mathlib.Core.Bool.{true, false}
use mathlib.Core.List.{List, []}
use mathlib.Core.Logic.{⊎_elim}
use mathlib.Core.Path.{◌≡◌, refl, ap, sym, ◌∙◌}
use lib.Dec.{eqb, ltb}
use lib.ListN.{length, drop, get_or, length-drop}
use lib.Seq.{get_or-drop, drop-drop}
use borrow.Author.Tests.{eq-eqb, ne_eqb, lt-ltb, le-ltb}
use Rattle.basis.specs.Pick.{isnt}
use Rattle.basis.proofs.Bounds.{split}
use Rattle.basis.proofs.Bytes.{past}
use Rattle.basis.proofs.Cases.{not_both}
use Rattle.utf8.specs.Table.{◌‥◌, within, look, look_at, Ch, chars, chars_at, well, edge, boundary}
use Rattle.utf8.specs.Unicode.{BoundaryExactly}
use Rattle.utf8.proofs.Ranges.{is_within, is_below, is_above}
use Rattle.utf8.proofs.Decodes.{look_reads}
use Rattle.utf8.proofs.Laws.{by_chars, look_width, at_width, chars_start, chars_end, well_char, well_end, edge_zero, edge_end, edge_inside, edge_char}

-- ---- boundaries
pub boundary_byte : (s : List ℕ) (n : ℕ) → n < length s → boundary s n ≡ isnt (within (0x80 ‥ 0xBF) (get_or s n 0))
unfolding boundary
boundary_byte s n h = rw (lt-ltb n (length s) h)

pub boundary_past : (s : List ℕ) (n : ℕ) → length s ≤ n → boundary s n ≡ eqb n (length s)
unfolding boundary
boundary_past s n h = rw (le-ltb n (length s) h)

-- a byte below 80 is one; any other, if it is above BF
pub boundary_low : (s : List ℕ) (n : ℕ) → n < length s → get_or s n 0 < 0x80 → boundary s n ≡ true
boundary_low s n h g = boundary_byte s n h ∙ ap isnt (is_below (0x80 ‥ 0xBF) (get_or s n 0) g)

pub boundary_high : (s : List ℕ) (n : ℕ) → n < length s → 0x80 ≤ get_or s n 0 → boundary s n ≡ ltb 0xBF (get_or s n 0)
boundary_high s n h g = boundary_byte s n h ∙ above (get_or s n 0) g
  where
    above : (b : ℕ) → 0x80 ≤ b → isnt (within (0x80 ‥ 0xBF) b) ≡ ltb 0xBF b
    above b l = ⊎_elim (λ k. rw (is_above (0x80 ‥ 0xBF) b k, lt-ltb 0xBF b k)) (λ k. rw (is_within (0x80 ‥ 0xBF) b l k, le-ltb 0xBF b k)) (split 0xBF b)

-- past the bytes of a character, a boundary is one of the rest
boundary_drop : (s : List ℕ) (w n : ℕ) → w ≤ n → w ≤ length s → boundary s n ≡ boundary (drop w s) (n - w)
boundary_drop s w n h g = ⊎_elim inside outside (split n (length s))
  where
    inside : n < length s → boundary s n ≡ boundary (drop w s) (n - w)
    inside k =
        let e : w + (n - w) ≡ n = omega arith in
        boundary_byte s n k
        ∙ ap (λ (b : ℕ). isnt (within (0x80 ‥ 0xBF) b)) (sym (get_or-drop w s (n - w) 0 ∙ ap (λ (m : ℕ). get_or s m 0) e))
        ∙ sym (boundary_byte (drop w s) (n - w) (omega (arith, length-drop w s)))

    outside : length s ≤ n → boundary s n ≡ boundary (drop w s) (n - w)
    outside k = boundary_past s n k ∙ same ∙ sym (boundary_past (drop w s) (n - w) (omega (arith, length-drop w s)))
      where
        same : eqb n (length s) ≡ eqb (n - w) (length (drop w s))
        same = rw (length-drop w s) (⊎_elim (λ l. rw (ne_eqb n (length s) (λ q. omega arith), ne_eqb (n - w) (length s - w) (λ q. omega arith)))
            (λ l. rw (eq-eqb n (length s) (omega arith), eq-eqb (n - w) (length s - w) (omega arith))) (split (length s) n))

module _ (s : List ℕ) {c w : ℕ} (e : look s ≡ char_found c w) where
  boundary_zero : boundary s 0 ≡ true
  boundary_zero = let h = look_width s e in boundary_byte s 0 (omega arith) ∙ ap isnt (look_reads s e).opens

  boundary_inside : (n : ℕ) → 0 < n → n < w → boundary s n ≡ false
  boundary_inside n h g = let k = look_width s e in boundary_byte s n (omega arith) ∙ ap isnt ((look_reads s e).inner n h g)

-- ---- a proof by edges
-- what holds at the start, and after a character if before it, holds at every edge
pub by_edges : (s : List ℕ) (P : ℕ → Type 0) → P 0 → ((at c w : ℕ) → look_at s at ≡ char_found c w → P at → P (at + w)) → (at : ℕ) → edge (chars s) at ≡ true → P at
by_edges s P start char at e =
    by_chars s (λ i. P i → (n k : ℕ) → k ≡ i + n → edge (chars_at s i) n ≡ true → P k) ended on 0 start at at (omega arith) (rw (chars_start s) e)
  where
    here : (i n k : ℕ) → P i → k ≡ i + n → n < 1 → P k
    here i n k p q h = let z : k ≡ i = omega arith in rw z p

    ended : (i : ℕ) → look_at s i ≡ None → P i → (n k : ℕ) → k ≡ i + n → edge (chars_at s i) n ≡ true → P k
    ended i z p n k q t = ⊎_elim (λ h. here i n k p q h) (λ h. not_both t (edge_end s i n z h)) (split n 1)

    on : (i c w : ℕ) → look_at s i ≡ char_found c w → (P (i + w) → (n k : ℕ) → k ≡ i + w + n → edge (chars_at s (i + w)) n ≡ true → P k)
        → P i → (n k : ℕ) → k ≡ i + n → edge (chars_at s i) n ≡ true → P k
    on i c w z ih p n k q t =
        ⊎_elim (λ h. here i n k p q h)
        (λ h. ⊎_elim (λ l. not_both t (edge_inside s i n z h l)) (λ l. ih (char i c w z p) (n - w) k (omega arith) (sym (edge_char s i n z h l) ∙ t)) (split n w))
        (split n 1)

-- ---- in a well-formed text, a boundary is an edge
nothing_left : (n : ℕ) → boundary [] n ≡ edge [] n
unfolding boundary edge
nothing_left n = rw (le-ltb n 0 (omega arith))

boundary_from : (s : List ℕ) (at : ℕ) → well (drop at s) ≡ true → (n : ℕ) → boundary (drop at s) n ≡ edge (chars_at s at) n
unfolding look_at
boundary_from s = by_chars s (λ at. well (drop at s) ≡ true → (n : ℕ) → boundary (drop at s) n ≡ edge (chars_at s at) n) ended on
  where
    ended : (at : ℕ) → look_at s at ≡ None → well (drop at s) ≡ true → (n : ℕ) → boundary (drop at s) n ≡ edge (chars_at s at) n
    ended at z e n = ⊎_elim (λ h. not_both e (well_end s at z h)) (λ h. rw (past s at h, chars_end s at z) (nothing_left n)) (split at (length s))

    on : (at c w : ℕ) → look_at s at ≡ char_found c w → (well (drop (at + w) s) ≡ true → (n : ℕ) → boundary (drop (at + w) s) n ≡ edge (chars_at s (at + w)) n)
        → well (drop at s) ≡ true → (n : ℕ) → boundary (drop at s) n ≡ edge (chars_at s at) n
    on at c w z ih e zero = boundary_zero (drop at s) z ∙ sym (edge_zero (chars_at s at))
    on at c w z ih e (suc m) =
        ⊎_elim (λ l. boundary_inside (drop at s) z (suc m) (omega arith) l ∙ sym (edge_inside s at (suc m) z (omega arith) l))
        (λ l. boundary_drop (drop at s) w (suc m) l (look_width (drop at s) z).1
        ∙ ap (λ (x : List ℕ). boundary x (suc m - w)) (drop-drop w at s)
        ∙ ih (sym (well_char s at z) ∙ e) (suc m - w)
        ∙ sym (edge_char s at (suc m) z (omega arith) l))
        (split (suc m) w)

pub boundary_edge : BoundaryExactly
boundary_edge s at e = boundary_from s 0 e at ∙ ap (λ (l : List Ch). edge l at) (chars_start s)

-- ---- edges of the whole text
-- counted on from an edge
pub edge_from : (s : List ℕ) (at : ℕ) → edge (chars s) at ≡ true → (n : ℕ) → edge (chars s) (at + n) ≡ edge (chars_at s at) n
edge_from s at e = by_edges s (λ i. (n : ℕ) → edge (chars s) (i + n) ≡ edge (chars_at s i) n) start on at e
  where
    start : (n : ℕ) → edge (chars s) (0 + n) ≡ edge (chars_at s 0) n
    start n = rw (zero-add, chars_start s)

    on : (i c w : ℕ) → look_at s i ≡ char_found c w → ((n : ℕ) → edge (chars s) (i + n) ≡ edge (chars_at s i) n) → (n : ℕ) → edge (chars s) (i + w + n) ≡ edge (chars_at s (i + w)) n
    on i c w z ih n =
        let h = at_width s i z in
        let k : w + n - w ≡ n = omega arith in
        ap (edge (chars s)) (add_assoc i w n) ∙ ih (w + n) ∙ edge_char s i (w + n) z (omega arith) (omega arith) ∙ ap (edge (chars_at s (i + w))) k

-- a character taken from an edge leads to an edge
pub edge_step : (s : List ℕ) (at : ℕ) {c w : ℕ} → edge (chars s) at ≡ true → look_at s at ≡ char_found c w → edge (chars s) (at + w) ≡ true
edge_step s at {c} {w} e z =
    let h = at_width s at z in
    edge_from s at e w ∙ edge_char s at w z (omega arith) (omega arith) ∙ ap (edge (chars_at s (at + w))) (omega arith) ∙ edge_zero (chars_at s (at + w))

module _ (s : List ℕ) (e : well s ≡ true) where
  -- a well-formed text is well formed from an edge on
  pub edge_well : (at : ℕ) → edge (chars s) at ≡ true → well (drop at s) ≡ true
  edge_well = by_edges s (λ i. well (drop i s) ≡ true) e (λ i c w z h. sym (well_char s i z) ∙ h)

  -- a character begins at an edge before the end
  pub edge_look : (at : ℕ) → edge (chars s) at ≡ true → at < length s → look_at s at ≡ None → ⊥
  edge_look at t h z = not_both (edge_well at t) (well_end s at z h)

  -- the end is an edge, and no edge is past it
  pub edge_length : edge (chars s) (length s) ≡ true
  edge_length = sym (boundary_edge s (length s) e) ∙ boundary_past s (length s) (omega arith) ∙ eq-eqb (length s) (length s) refl

  pub edge_within : (at : ℕ) → edge (chars s) at ≡ true → at ≤ length s
  edge_within at t = ⊎_elim (λ h. not_both t (sym (boundary_edge s at e) ∙ boundary_past s at (omega arith) ∙ ne_eqb at (length s) (λ q. omega arith))) (λ h. h) (split (length s) at)
