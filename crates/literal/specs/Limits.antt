-- Demand 3 for one literal: what a looser limit and a larger room keep. The statements; their proofs are in proofs/Limits.antt.
use Rattle.literal.specs.Scans.{accepted_as}
use Rattle.std.specs.Prelude.{ℕ, ◌+◌, ◌≤◌, ◌<◌, true, false, List, ◌⊎◌, ◌≡◌, length, Err}
use Rattle.position.specs.declared.Position.{Position}
use Rattle.fault.specs.Faults.{string_too_long, Own, number}
use Rattle.literal.specs.Trace.{Trace, ends, fails, adds, checks, bytes, final, good, passes}
use Rattle.literal.specs.Cut.{cut, answer}
use Rattle.literal.specs.Told.{refusal_number}
use Rattle.literal.specs.declared.End.{End}
use Rattle.literal.specs.declared.Refusal.{Refusal}

-- the limit m is nowhere stricter than l: it is none, or it is no smaller
abbrev pub Looser : ℕ → ℕ → Type 0
Looser l m = (m ≡ 0) ⊎ ((0 < l) × (l ≤ m))

-- every test of the limit refuses with 7 at the literal's start, and no rule of its own does with 7, 9 or 10
abbrev pub FairTrace : Position → Trace → Type 0
FairTrace start (ends e) = Unit {0}
FairTrace start (fails f) = Own f.fault
FairTrace start (adds bs t) = FairTrace start t
FairTrace start (checks f t) = (f.fault ≡ string_too_long start) × FairTrace start t

-- an accepted reading's length is its body's, and within the room; and it ends as the unlimited rules say
abbrev pub AcceptedWhole : Type 0
AcceptedWhole =
    (full : Refusal) (limit room : ℕ) (t : Trace) (e : End) (n : ℕ)
    → cut full limit room 0 t ≡ accepted_as e n
    → (n ≡ length (bytes t)) × (n ≤ room) × (final t ≡ good e)

-- within the limit and the room nothing is cut
abbrev pub UncutWithin : Type 0
UncutWithin =
    (full : Refusal) (limit room : ℕ) (t : Trace)
    → length (bytes t) ≤ room
    → passes limit (length (bytes t)) ≡ false
    → cut full limit room 0 t ≡ answer (length (bytes t)) (final t)

-- neither 7 nor 9: the same answer under any looser limit and larger room
abbrev pub RecursWhole : Type 0
RecursWhole =
    (full : Refusal) (l m r s : ℕ) (start : Position) (t : Trace)
    → number full.fault ≡ 9
    → FairTrace start t
    → Looser l m
    → r ≤ s
    → (refusal_number (cut full l r 0 t) ≡ 7 → ⊥)
    → (refusal_number (cut full l r 0 t) ≡ 9 → ⊥)
    → cut full m s 0 t ≡ cut full l r 0 t

-- what a reading may pass: the string limit, the literal room or, in a run, the token room
pub data Bound : Type 0 where
  string_limit : Bound
  literal_room : Bound
  token_room : Bound

-- a reading, n bytes into it, passes a bound and is cut with a refusal: at the first step that passes the room, or the first test that finds more than the limit
pub data Cuts (full : Refusal) (limit room : ℕ) : ℕ → Trace → Bound → Refusal → Type 0 where
  no_room : {n : ℕ} {bs : List ℕ} {t : Trace} → room < n + length bs → Cuts full limit room n (adds bs t) literal_room full
  too_long : {n : ℕ} {f : Refusal} {t : Trace} → passes limit n ≡ true → Cuts full limit room n (checks f t) string_limit f
  goes_on : {n : ℕ} {bs : List ℕ} {t : Trace} {by : Bound} {g : Refusal} → n + length bs ≤ room → Cuts full limit room (n + length bs) t by g → Cuts full limit room n (adds bs t) by g
  is_tested : {n : ℕ} {f : Refusal} {t : Trace} {by : Bound} {g : Refusal} → passes limit n ≡ false → Cuts full limit room n t by g → Cuts full limit room n (checks f t) by g

-- a reading that passes is refused there
abbrev pub CutThere : Type 0
CutThere = (full : Refusal) (limit room : ℕ) (t : Trace) (by : Bound) (f : Refusal) → Cuts full limit room 0 t by f → cut full limit room 0 t ≡ Err f

-- one that passes nothing is answered as the unlimited rules say
abbrev pub UncutElse : Type 0
UncutElse =
    (full : Refusal) (limit room : ℕ) (t : Trace)
    → ((by : Bound) (f : Refusal) → Cuts full limit room 0 t by f → ⊥)
    → cut full limit room 0 t ≡ answer (length (bytes t)) (final t)

-- 7 comes at the first test that finds more than the limit, 9 at the first step that passes the room, and only there
abbrev pub CutAtTheFirst : Type 0
CutAtTheFirst =
    (full : Refusal) (limit room : ℕ) (start : Position) (t : Trace) (f : Refusal)
    → number full.fault ≡ 9
    → FairTrace start t
    → cut full limit room 0 t ≡ Err f
    → (number f.fault ≡ 7 → Cuts full limit room 0 t string_limit f) × (number f.fault ≡ 9 → Cuts full limit room 0 t literal_room f)
