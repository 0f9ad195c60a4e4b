-- Characters that a body of n bytes has room for, with no limit in the way: the next `most` bytes may be added at once. Assumes nothing.
use Prim.Native.Nat.{ℕ, ◌+◌, ◌≤◌, ◌<◌}
use native.Mathlib.Omega.{arith}
use native.Mathlib.Nat.{add_assoc}
use mathlib.Core.Bool.{false}
use mathlib.Core.List.{List}
use mathlib.Core.Path.{◌≡◌, ◌∙◌}
use lib.ListN.{length}
use Rattle.literal.specs.Trace.{Trace, adds, checks, passes}
use Rattle.literal.specs.Cut.{cut}
use Rattle.literal.specs.declared.Refusal.{Refusal}
use Rattle.literal.proofs.Turns.{cut_adds, cut_on}
use Rattle.literal.proofs.Limits.{fewer}

module _ (full : Refusal) (limit room n most : ℕ) (g : n + most ≤ room) (o : 0 < most → passes limit (n + most) ≡ false) where
  -- a character of w bytes behind i of them
  module _ (i w : ℕ) (some : 1 ≤ w) (h : i + w ≤ most) (bs : List ℕ) (q : length bs ≡ w) (f : Refusal) (r : Trace) where
    below : (m : ℕ) → m ≤ n + most → passes limit m ≡ false
    below m l = fewer limit m (n + most) l (o (omega arith))

    added : (t : Trace) → cut full limit room (n + i) (adds bs t) ≡ cut full limit room (n + i + w) t
    added t = cut_adds full limit room (n + i) w bs t q (omega arith) (omega arith)

    -- its bytes are added, and then the limit is tested
    pub adds_within : cut full limit room (n + i) (adds bs (checks f r)) ≡ cut full limit room (n + (i + w)) r
    adds_within = rw (← add_assoc n i w) (added (checks f r) ∙ cut_on full limit room (n + i + w) f r (below (n + i + w) (omega arith)))

    -- the limit is tested, and then its bytes are added
    pub tests_within : cut full limit room (n + i) (checks f (adds bs r)) ≡ cut full limit room (n + (i + w)) r
    tests_within = rw (← add_assoc n i w) (cut_on full limit room (n + i) f (adds bs r) (below (n + i) (omega arith)) ∙ added r)
