-- The theorems of specs/Unicode.antt (Boundary-exactly is boundary-edge of proofs/Edges.antt), and the laws of encodings that callers cite.
-- Assumes nothing.
use Rattle.utf8.specs.Looks.{char_found}
use Rattle.std.specs.Prelude.{None}
use Prim.Native.Nat.{ℕ, ◌+◌}
use mathlib.Core.Bool.{true}
use mathlib.Core.List.{List, [], ◌∷◌, ◌++◌}
use mathlib.Core.Logic.{⊎_elim}
use mathlib.Core.Path.{◌≡◌, refl, ap, sym, ◌∙◌}
use lib.ListN.{length, take, drop}
use lib.Seq.{take_at, drop-append_seam, drop-drop}
use Rattle.basis.proofs.Bounds.{split}
use Rattle.basis.proofs.Bytes.{past}
use Rattle.basis.specs.Pick.{both}
use Rattle.basis.proofs.Cases.{not_both, both_left, both_right}
use Rattle.utf8.specs.Table.{look, look_at, Ch, chars_from, chars, chars_at, codes, well_from, well}
use Rattle.utf8.specs.Encode.{is_scalar, encode, encode_all, all_scalar}
use Rattle.utf8.specs.Unicode.{WellFormedExactly, DecodedAgain, EncodedAgain, FoundScalar, FoundBytes, FoundSize, FoundWidth}
use Rattle.utf8.proofs.Decodes.{look_reads}
use Rattle.utf8.proofs.Finds.{look_encode}
use Rattle.utf8.proofs.Laws.{by_chars, at_width, chars_cons, chars_char, chars_end, chars_start, well_cons, well_char, well_end}

-- ---- a character found
module _ (s : List ℕ) (at : ℕ) {c w : ℕ} (e : look_at s at ≡ char_found c w) where
  pub size_width : length (encode c) ≡ w
  unfolding look_at
  size_width = (look_reads (drop at s) e).width

  pub code_scalar : is_scalar c ≡ true
  unfolding look_at
  code_scalar = (look_reads (drop at s) e).scalar

  pub look_scalar_bytes : take w (drop at s) ≡ encode c
  unfolding look_at
  look_scalar_bytes =
      let r = look_reads (drop at s) e in
      ap (take w) r.bytes ∙ take_at (encode c) (drop w (drop at s)) w r.width

-- ---- whole texts
-- the encodings of scalar values are well formed, and read back as those values
module _ (c : ℕ) (cs : List ℕ) (e : both (is_scalar c) (all_scalar cs) ≡ true) where
  first_read : look (encode c ++ encode_all cs) ≡ char_found c (length (encode c))
  first_read = look_encode c (encode_all cs) (both_left (is_scalar c) (all_scalar cs) e)

pub scalars_well : (cs : List ℕ) → all_scalar cs ≡ true → well (encode_all cs) ≡ true
unfolding encode_all all_scalar well_from well
scalars_well [] e = refl
scalars_well (c ∷ cs) e =
    well_cons (encode c ++ encode_all cs) c (length (encode c)) (first_read c cs e)
    ∙ ap well (drop-append_seam (encode c) (encode_all cs))
    ∙ scalars_well cs (both_right (is_scalar c) (all_scalar cs) e)

pub scalars_read : DecodedAgain
unfolding encode_all all_scalar chars_from chars codes
scalars_read [] e = refl
scalars_read (c ∷ cs) e =
    ap codes (chars_cons (encode c ++ encode_all cs) c (length (encode c)) (first_read c cs e))
    ∙ ap (λ (l : List ℕ). c ∷ codes (chars l)) (drop-append_seam (encode c) (encode_all cs))
    ∙ ap (λ (l : List ℕ). c ∷ l) (scalars_read cs (both_right (is_scalar c) (all_scalar cs) e))

-- a well-formed text is the encodings of its characters, which are scalar values
abbrev Encoded : List ℕ → List Ch → Type 0
Encoded s cs = (all_scalar (codes cs) ≡ true) × (encode_all (codes cs) ≡ s)

encoded_from : (s : List ℕ) (at : ℕ) → well (drop at s) ≡ true → Encoded (drop at s) (chars_at s at)
unfolding look_at encode_all all_scalar codes
encoded_from s = by_chars s (λ at. well (drop at s) ≡ true → Encoded (drop at s) (chars_at s at)) ended on
  where
    ended : (at : ℕ) → look_at s at ≡ None → well (drop at s) ≡ true → Encoded (drop at s) (chars_at s at)
    ended at z e = ⊎_elim (λ h. not_both e (well_end s at z h)) (λ h. rw (past s at h, chars_end s at z) (refl, refl)) (split at (length s))

    on : (at c w : ℕ) → look_at s at ≡ char_found c w → (well (drop (at + w) s) ≡ true → Encoded (drop (at + w) s) (chars_at s (at + w)))
        → well (drop at s) ≡ true → Encoded (drop at s) (chars_at s at)
    on at c w z ih e =
        let r = look_reads (drop at s) z in
        let i = ih (sym (well_char s at z) ∙ e) in
        rw (chars_char s at z) (rw r.scalar i.0, ap (λ (l : List ℕ). encode c ++ l) (i.1 ∙ sym (drop-drop w at s)) ∙ sym r.bytes)

pub well_encoded : (s : List ℕ) → well s ≡ true → (all_scalar (codes (chars s)) ≡ true) × (encode_all (codes (chars s)) ≡ s)
well_encoded s e = rw (← chars_start s) (encoded_from s 0 e)

pub well_iff : WellFormedExactly
well_iff s = (λ e. (codes (chars s), (well_encoded s e).0, (well_encoded s e).1), λ p. rw (← p.2) (scalars_well p.0 p.1))

-- ---- the other theorems
pub encoded_again : EncodedAgain
encoded_again s e = (well_encoded s e).1

pub found_scalar : FoundScalar
found_scalar s at c w e = code_scalar s at e

pub found_bytes : FoundBytes
found_bytes s at c w e = look_scalar_bytes s at e

pub found_size : FoundSize
found_size s at c w e = size_width s at e

pub found_width : FoundWidth
found_width s at c w e = at_width s at e
