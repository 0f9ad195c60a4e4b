-- One step of a reading under a limit and a room, as a measuring loop meets it: the side conditions are the code's tests. Assumes nothing.
use Rattle.std.specs.Prelude.{Err}
use Prim.Native.Nat.{ℕ, ◌+◌, ◌-◌, ◌≤◌, ◌<◌}
use native.Mathlib.Omega.{arith}
use mathlib.Core.Bool.{true, false}
use mathlib.Core.List.{List, [], ◌∷◌}
use mathlib.Core.Path.{◌≡◌, refl}
use lib.ListN.{length}
use lib.Seq.{sets}
use borrow.Author.Tests.{le-leb, lt-leb, eq-eqb}
use Rattle.basis.proofs.Stores.{sets_front}
use Rattle.literal.specs.Trace.{Trace, ends, fails, adds, checks, Yield, added, tested, yields, bytes, passes}
use Rattle.literal.specs.Cut.{cut, wrote}
use Rattle.literal.specs.declared.End.{End}
use Rattle.literal.specs.declared.Refusal.{Refusal}
use Rattle.literal.specs.Scans.{Scanned, accepted_as}

module _ (full : Refusal) (limit room n : ℕ) where
  pub cut_ends : (e : End) → cut full limit room n (ends e) ≡ accepted_as e n
  unfolding cut
  cut_ends e = refl

  pub cut_fails : (f : Refusal) → cut full limit room n (fails f) ≡ Err f
  unfolding cut
  cut_fails f = refl

  -- a step of m bytes that has no room, or has room
  pub cut_full : (m : ℕ) (bs : List ℕ) (t : Trace) → length bs ≡ m → n ≤ room → room - n < m → cut full limit room n (adds bs t) ≡ Err full
  unfolding cut
  cut_full m bs t e l h = rw (e, lt-leb (n + m) room (omega arith))

  pub cut_adds : (m : ℕ) (bs : List ℕ) (t : Trace) → length bs ≡ m → n ≤ room → m ≤ room - n → cut full limit room n (adds bs t) ≡ cut full limit room (n + m) t
  unfolding cut
  cut_adds m bs t e l h = rw (e, le-leb (n + m) room (omega arith))

  -- a test of the limit that passes it, or does not
  pub cut_long : (f : Refusal) (t : Trace) → passes limit n ≡ true → cut full limit room n (checks f t) ≡ Err f
  unfolding cut
  cut_long f t h = rw h

  pub cut_on : (f : Refusal) (t : Trace) → passes limit n ≡ false → cut full limit room n (checks f t) ≡ cut full limit room n t
  unfolding cut
  cut_on f t h = rw h

-- the memory that stores of the body from the front leave
pub wrote_accepted : (e : End) (n : ℕ) (t : Trace) (memory : List ℕ) → length (bytes t) ≤ length memory → sets memory 0 (bytes t) ≡ wrote (accepted_as e n) t memory
unfolding wrote
wrote_accepted e n t memory h = sets_front memory (bytes t) h

-- a refused scan leaves it as it was
pub wrote_refused : {r : Scanned} {f : Refusal} → r ≡ Err f → (t : Trace) (memory : List ℕ) → memory ≡ wrote r t memory
unfolding wrote
wrote_refused e t memory = rw e

-- the test of the limit, as the code makes it
module _ (limit n : ℕ) where
  pub no_limit : limit ≡ 0 → passes limit n ≡ false
  unfolding passes
  no_limit z = rw (eq-eqb limit 0 z)

-- what a turn yields, opened
module _ (t : Trace) where
  pub yields_none : yields [] t ≡ t
  unfolding yields
  yields_none = refl

  pub yields_added : (bs : List ℕ) (ys : List Yield) → yields (added bs ∷ ys) t ≡ adds bs (yields ys t)
  unfolding yields
  yields_added bs ys = refl

  pub yields_tested : (f : Refusal) (ys : List Yield) → yields (tested f ∷ ys) t ≡ checks f (yields ys t)
  unfolding yields
  yields_tested f ys = refl
