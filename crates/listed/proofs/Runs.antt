-- The listing of a run, and of a script. Assumes nothing.
use Prim.Native.Nat.{ℕ, ◌*◌, ◌≤◌, ◌<◌}
use native.Mathlib.Omega.{arith}
use mathlib.Core.List.{List, [], ◌∷◌}
use mathlib.Core.Path.{◌≡◌, sym, ap, ◌∙◌}
use lib.ListN.{length, replicate}
use borrow.Author.Tests.{lt-ltb, le-ltb}
use Rattle.basis.specs.Words.{word}
use Rattle.reading.specs.Reading.{Left, entries}
use Rattle.reading.specs.declared.Bounds.{Bounds}
use Rattle.script.specs.Rules.{document01}
use Rattle.entry.specs.Entries.{numbers_of}
use Rattle.reading.proofs.Fits.{cut_fits}
use Rattle.run.specs.Run.{run_reading, bounds_of, run_of, ran_of, Called, called, holds}
use Rattle.run.specs.declared.Ran.{Ran}
use Rattle.listed.specs.Texts.{Writing, writing, put, puts}
use Rattle.listed.specs.Listing.{entries_lines, ending_line, left_lines, run_lines, listing_of}
use Rattle.listed.proofs.Puts.{puts_append, and_puts}

-- a run lists as many entries as the bounds allow
listed_fit : (b : Bounds) (t book : List ℕ) → length (entries (run_of document01 b t book).tokens) ≤ b.entries
unfolding run_of
listed_fit b t book = omega (arith, (cut_fits b 0 0 (run_reading document01 t book) (omega arith) (omega arith)).entries)

module _ (t ls es : List ℕ) where
  abbrev left : Left
  left = run_of document01 (bounds_of 5 0 (length ls) (length es)) t (0 ∷ 0 ∷ [])

  -- what the call of the run told
  module _ {r : Ran} {ls' es' : List ℕ} (told : called r ls' es' ≡ holds numbers_of left ls es) where
    answered : r ≡ ran_of left
    answered = ap (λ (x : Called). x.answer) told

    pub entries_room : (m : ℕ) → m ≡ length es → 5 * r.listed ≤ m
    entries_room m e = rw (answered, e) (omega (arith, listed_fit (bounds_of 5 0 (length ls) (length es)) t (0 ∷ 0 ∷ [])))

    pub run_put : (x : Writing) {u v : Writing} → u ≡ puts x (entries_lines t ls' r.listed es') → v ≡ puts u (ending_line r.ending) → v ≡ puts x (run_lines t ls es)
    unfolding run_lines left_lines
    run_put x e f =
        let b = ap (λ (x : Called). x.literals) told in
        let q = ap (λ (x : Called). x.entries) told in
        and_puts (rw (answered, b, q) at e) _ (rw answered at f) ∙ sym (puts_append x _ _)

-- the two ways out of a listing
module _ (t l : List ℕ) {u : Writing} where
  pub lists_long : 32768 < length t → u ≡ put (writing l 0) (word "stop 2 1\n") → u ≡ puts (writing l 0) (listing_of t)
  unfolding puts listing_of
  lists_long h e = rw (lt-ltb 32768 (length t) h) e

  pub lists_short : length t ≤ 32768 → u ≡ puts (writing l 0) (run_lines t (replicate 32768 0) (replicate 9000 0)) → u ≡ puts (writing l 0) (listing_of t)
  unfolding listing_of
  lists_short h e = rw (le-ltb 32768 (length t) h) e
