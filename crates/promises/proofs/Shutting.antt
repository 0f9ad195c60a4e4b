-- The theorem ShutsOut of specs/RoundTrip.antt, by three short bodies. Assumes nothing.
use Prim.Native.Nat.{ℕ}
use native.Mathlib.Omega.{arith}
use mathlib.Core.List.{List, [], ◌∷◌, ◌++◌}
use mathlib.Core.Path.{◌≡◌, refl, sym, ap, ◌∙◌}
use lib.ListN.{get_or}
use Rattle.position.specs.declared.Position.{Position}
use Rattle.position.specs.Place.{start}
use Rattle.position.proofs.Moves.{start_on}
use Rattle.utf8.specs.Table.{look, well_from, well}
use Rattle.literal.specs.Told.{Told}
use Rattle.literal.proofs.Turns.{no_limit}
use Rattle.raw_writer.specs.Writer.{hashes_ahead, most_after_quote, hashes_for, raw_literal_of}
use Rattle.promises.specs.RoundTrip.{Writer, Scanner, made, ComesBack, ReadsBack, RefusesAll, FixedBody, InventsCount, WritesNothing, ShutsOut}

module _ (w : Writer) (s : Scanner) (demand : ReadsBack w s) where
  -- a buffer for the writer, and one for the scanner
  abbrev lent : List ℕ
  lent = 0 ∷ 0 ∷ 0 ∷ 0 ∷ 0 ∷ []

  abbrev buffer : List ℕ
  buffer = 0 ∷ []

  abbrev text : List ℕ → List ℕ
  text body = [] ++ made (w.answers body lent) (w.leaves body lent) ++ []

  abbrev Back : List ℕ → Type 0
  Back body = ComesBack body [] start buffer (w.answers body lent) (s.answers (text body) 1 start 0 buffer) (s.leaves (text body) 1 start 0 buffer)

  -- the empty body, `a` and `b`
  none_back : Back []
  unfolding look well_from well hashes_ahead most_after_quote hashes_for raw_literal_of
  none_back = demand [] [] [] lent buffer start 0 refl start_on (refl, omega arith) (omega arith) (no_limit 0 0 refl) (omega arith)

  a_back : Back (0x61 ∷ [])
  unfolding look well_from well hashes_ahead most_after_quote hashes_for raw_literal_of
  a_back = demand (0x61 ∷ []) [] [] lent buffer start 0 refl start_on (refl, omega arith) (omega arith) (no_limit 0 1 refl) (omega arith)

  b_back : Back (0x62 ∷ [])
  unfolding look well_from well hashes_ahead most_after_quote hashes_for raw_literal_of
  b_back = demand (0x62 ∷ []) [] [] lent buffer start 0 refl start_on (refl, omega arith) (omega arith) (no_limit 0 1 refl) (omega arith)

  -- two bodies of one byte do not come back as one
  apart : ◌≡◌ {A = List ℕ} (0x61 ∷ []) (0x62 ∷ []) → ⊥
  apart e = let z : ◌≡◌ {A = ℕ} 0x61 0x62 = ap (λ (l : List ℕ). get_or l 0 0) e in omega arith

  refuses_all : RefusesAll s → ⊥
  refuses_all h = h (text []) 1 start 0 buffer (ap (λ (t : Told). t.number) none_back.is_told)

  fixed_body : (body : ℕ → Position → ℕ → List ℕ → List ℕ) → FixedBody s body → ⊥
  fixed_body body h = apart (sym a_back.is_left ∙ h (text (0x61 ∷ [])) 1 start 0 buffer ∙ sym (h (text (0x62 ∷ [])) 1 start 0 buffer) ∙ b_back.is_left)

  invents_count : (count : ℕ → Position → ℕ → List ℕ → ℕ) → InventsCount s count → ⊥
  unfolding hashes_ahead most_after_quote hashes_for raw_literal_of
  invents_count count h =
      let a = ap (λ (t : Told). t.cursor.at) none_back.is_told in
      let b = ap (λ (t : Told). t.cursor.at) a_back.is_told in
      let z : ◌≡◌ {A = ℕ} 4 5 = sym a ∙ h (text []) 1 start 0 buffer ∙ sym (h (text (0x61 ∷ [])) 1 start 0 buffer) ∙ b in
      omega arith

  writes_nothing : WritesNothing w → ⊥
  unfolding hashes_ahead most_after_quote hashes_for raw_literal_of
  writes_nothing h =
      let a : text (0x61 ∷ []) ≡ lent = rw (a_back.is_written, h (0x61 ∷ []) lent) in
      let b : text (0x62 ∷ []) ≡ lent = rw (b_back.is_written, h (0x62 ∷ []) lent) in
      apart (sym a_back.is_left ∙ ap (λ (t : List ℕ). s.leaves t 1 start 0 buffer) (a ∙ sym b) ∙ b_back.is_left)

pub shuts_out : ShutsOut
shuts_out w s demand = (refuses_all w s demand, fixed_body w s demand, invents_count w s demand, writes_nothing w s demand)
