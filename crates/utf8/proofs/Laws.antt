-- What callers need of the characters of a text: the one at an offset against the list from there on, its width, and whether the text is well formed from there on.
-- Assumes nothing.
use Rattle.std.specs.Prelude.{None, Some}
use Prim.Native.Nat.{ℕ, zero, suc, ◌+◌, ◌-◌, ◌≤◌, ◌<◌}
use native.Mathlib.Omega.{arith}
use mathlib.Core.Bool.{true, false}
use mathlib.Core.List.{List, [], ◌∷◌}
use mathlib.Core.Path.{◌≡◌, refl, ap, ◌∙◌}
use lib.ListN.{length, drop, length-drop, length-append}
use lib.Seq.{drop-drop}
use borrow.Author.Tests.{ne_eqb, lt-ltb, le-ltb}
use Rattle.basis.proofs.Bytes.{past}
use Rattle.utf8.specs.Table.{look, look_at, Ch, ch, chars_from, chars, chars_at, well_from, well, edge}
use Rattle.utf8.specs.Looks.{Look, char_found}
use Rattle.utf8.proofs.Encodes.{size_bounds}
use Rattle.utf8.proofs.Decodes.{no_end, look_reads}

-- a character takes one to four bytes, and lies in the text
pub look_width : (bs : List ℕ) {c w : ℕ} → look bs ≡ char_found c w → (1 ≤ w) × (w ≤ length bs) × (w ≤ 4)
look_width bs {c} {w} e =
    let r = look_reads bs e in
    let b = size_bounds c in
    let h : length bs ≡ w + length (drop w bs) = ap length r.bytes ∙ simp (length-append, r.width) in
    (omega (arith, r.width), omega arith, omega (arith, r.width))

pub at_width : (s : List ℕ) (at : ℕ) {c w : ℕ} → look_at s at ≡ char_found c w → (1 ≤ w) × (at + w ≤ length s) × (w ≤ 4)
unfolding look_at
at_width s at {c} {w} e =
    let h = look_width (drop at s) e in
    (h.0, omega (arith, length-drop at s), h.2)

-- none begins past the end
pub look_past : (s : List ℕ) (at : ℕ) → length s ≤ at → look_at s at ≡ None
unfolding look look_at
look_past s at h = rw (past s at h)

-- ---- a proof by characters: what holds where no character begins, and before a character if after it, holds everywhere
pub by_chars : (s : List ℕ) (P : ℕ → Type 0) → ((at : ℕ) → look_at s at ≡ None → P at) → ((at c w : ℕ) → look_at s at ≡ char_found c w → P (at + w) → P at) → (at : ℕ) → P at
by_chars s P ended char at = go (length s) at (omega arith)
  where
    on : (at : ℕ) (x : Look) → look_at s at ≡ x → ((c w : ℕ) → look_at s at ≡ char_found c w → P (at + w)) → P at
    on at (Some (c, w)) e rest = char at c w e (rest c w e)
    on at None e rest = ended at e

    go : (m at : ℕ) → length s ≤ at + m → P at
    go zero at h = on at (look_at s at) refl (λ c w e. absurd (omega (arith, at_width s at e)))
    go (suc m) at h = on at (look_at s at) refl (λ c w e. go m (at + w) (omega (arith, at_width s at e)))

-- ---- the list of characters
pub chars_skip : (k : ℕ) (s : List ℕ) → chars_from k s ≡ chars (drop k s)
unfolding chars_from chars
chars_skip zero s = refl
chars_skip (suc k) [] = refl
chars_skip (suc k) (b ∷ bs) = chars_skip k bs

look_nil : {A : Type 0} {c w : ℕ} → look [] ≡ char_found c w → A
unfolding look
look_nil e = no_end e

-- it begins with the first one, and goes on after its bytes
pub chars_cons : (bs : List ℕ) (c w : ℕ) → look bs ≡ char_found c w → chars bs ≡ ch c w ∷ chars (drop w bs)
unfolding chars_from chars
chars_cons [] c w e = look_nil e
chars_cons (b ∷ bs) c zero e = absurd (let h = look_width (b ∷ bs) e in omega arith)
chars_cons (b ∷ bs) c (suc k) e = rw e (ap (λ (l : List Ch). ch c (suc k) ∷ l) (chars_skip k bs))

pub chars_char : (s : List ℕ) (at : ℕ) {c w : ℕ} → look_at s at ≡ char_found c w → chars_at s at ≡ ch c w ∷ chars_at s (at + w)
unfolding look_at chars_at
chars_char s at {c} {w} e = chars_cons (drop at s) c w e ∙ ap (λ (l : List ℕ). ch c w ∷ chars l) (drop-drop w at s)

no_chars : (bs : List ℕ) → look bs ≡ None → chars bs ≡ []
unfolding chars_from chars
no_chars [] e = refl
no_chars (b ∷ bs) e = rw e

pub chars_end : (s : List ℕ) (at : ℕ) → look_at s at ≡ None → chars_at s at ≡ []
unfolding look_at chars_at
chars_end s at e = no_chars (drop at s) e

-- from the start
pub chars_start : (s : List ℕ) → chars_at s 0 ≡ chars s
unfolding chars_at
chars_start s = refl

-- ---- well formed
well_skip : (k : ℕ) (s : List ℕ) → well_from k s ≡ well (drop k s)
unfolding well_from well
well_skip zero s = refl
well_skip (suc k) [] = refl
well_skip (suc k) (b ∷ bs) = well_skip k bs

pub well_cons : (bs : List ℕ) (c w : ℕ) → look bs ≡ char_found c w → well bs ≡ well (drop w bs)
unfolding well_from well
well_cons [] c w e = look_nil e
well_cons (b ∷ bs) c zero e = absurd (let h = look_width (b ∷ bs) e in omega arith)
well_cons (b ∷ bs) c (suc k) e = rw e (well_skip k bs)

-- a text is so from an offset exactly if it is so after the character there
pub well_char : (s : List ℕ) (at : ℕ) {c w : ℕ} → look_at s at ≡ char_found c w → well (drop at s) ≡ well (drop (at + w) s)
unfolding look_at
well_char s at {c} {w} e = well_cons (drop at s) c w e ∙ ap well (drop-drop w at s)

-- where no character begins, only at the end
no_well : (bs : List ℕ) → look bs ≡ None → 0 < length bs → well bs ≡ false
unfolding well_from well
no_well [] e h = absurd (omega arith)
no_well (b ∷ bs) e h = rw e

pub well_end : (s : List ℕ) (at : ℕ) → look_at s at ≡ None → at < length s → well (drop at s) ≡ false
unfolding look_at
well_end s at e h = no_well (drop at s) e (omega (arith, length-drop at s))

pub well_done : (s : List ℕ) (at : ℕ) → length s ≤ at → well (drop at s) ≡ true
unfolding well_from well
well_done s at h = rw (past s at h)

-- ---- edges, counted from an offset
pub edge_zero : (cs : List Ch) → edge cs 0 ≡ true
unfolding edge
edge_zero [] = refl
edge_zero (c ∷ cs) = refl

pub edge_end : (s : List ℕ) (at n : ℕ) → look_at s at ≡ None → 0 < n → edge (chars_at s at) n ≡ false
unfolding edge
edge_end s at n e h = rw (chars_end s at e) (ne_eqb n 0 (λ q. omega arith))

module _ (s : List ℕ) (at n : ℕ) {c w : ℕ} (e : look_at s at ≡ char_found c w) (h : 0 < n) where
  pub edge_inside : n < w → edge (chars_at s at) n ≡ false
  unfolding edge
  edge_inside g = rw (chars_char s at e) (simp (ne_eqb n 0 (λ q. omega arith), lt-ltb n w g))

  pub edge_char : w ≤ n → edge (chars_at s at) n ≡ edge (chars_at s (at + w)) (n - w)
  unfolding edge
  edge_char g = rw (chars_char s at e) (simp (ne_eqb n 0 (λ q. omega arith), le-ltb n w g))
