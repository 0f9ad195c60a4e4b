-- What a literal's reading tells is small, and so is what is cut of it. Assumes nothing.
use Rattle.lex_error.specs.declared.LexError.TheVariants.{StringTooLong}
use Rattle.std.specs.Prelude.{Err, Ok}
use Prim.Native.Nat.{ℕ, ◌+◌}
use native.Mathlib.Omega.{arith}
use mathlib.Core.List.{List, [], ◌∷◌}
use lib.Dec.{leb}
use lib.ListN.{length}
use Rattle.basis.proofs.Cases.{pick_cases}
use Rattle.position.specs.declared.Position.{Position}
use Rattle.position.proofs.Small.{Small}
use Rattle.fault.proofs.Small.{Tells, fault_tells}
use Rattle.literal.specs.Trace.{Trace, ends, fails, adds, checks, Yield, added, tested, yields, final, Outcome, good, bad, passes}
use Rattle.literal.specs.Cut.{cut}
use Rattle.literal.specs.Limits.{FairTrace}
use Rattle.literal.specs.declared.Refusal.{Refusal}
use Rattle.literal.specs.Scans.{Scanned}

-- of a script of n bytes; what a test of the limit tells is `FairTrace`
module _ (n : ℕ) where
  abbrev pub Traced : Trace → Type 0
  Traced (ends e) = Small e.cursor.place
  Traced (fails f) = Tells n f.fault
  Traced (adds bs t) = Traced t
  Traced (checks f t) = Traced t

  -- behind what a turn yields
  pub yields_traced : (ys : List Yield) (t : Trace) → Traced t → Traced (yields ys t)
  unfolding yields
  yields_traced [] t h = h
  yields_traced (added bs ∷ ys) t h = yields_traced ys t h
  yields_traced (tested f ∷ ys) t h = yields_traced ys t h

  abbrev pub ScannedTells : Scanned → Type 0
  ScannedTells (Ok (e, m)) = Unit {0}
  ScannedTells (Err f) = Tells n f.fault

  pub cut_tells : (full : Refusal) → Tells n full.fault → (start : Position) → Small start → (limit room k : ℕ) (t : Trace) → FairTrace start t → Traced t → ScannedTells (cut full limit room k t)
  unfolding cut
  cut_tells full h start p limit room k (ends e) sv x = tt
  cut_tells full h start p limit room k (fails f) sv x = x
  cut_tells full h start p limit room k (adds bs t) sv x = pick_cases ScannedTells (leb (k + length bs) room) _ _ (λ y. cut_tells full h start p limit room (k + length bs) t sv x) (λ y. h)
  cut_tells full h start p limit room k (checks f t) sv x =
      pick_cases ScannedTells (passes limit k) _ _ (λ y. rw sv.0 (fault_tells n StringTooLong p)) (λ y. cut_tells full h start p limit room k t sv.1 x)

  -- how it ends
  abbrev pub OutcomeSmall : Outcome → Type 0
  OutcomeSmall (good e) = Small e.cursor.place
  OutcomeSmall (bad f) = Tells n f.fault

  pub final_small : (t : Trace) → Traced t → OutcomeSmall (final t)
  unfolding final
  final_small (ends e) h = h
  final_small (fails f) h = h
  final_small (adds bs t) h = final_small t h
  final_small (checks f t) h = final_small t h
