-- Two refusals for want of room that tell the same fault: the answers that they lead to tell the same. Assumes nothing.
use Rattle.std.specs.Prelude.{Err, Ok}
use Prim.Native.Nat.{ℕ, ◌+◌}
use mathlib.Core.Bool.{Bool, true, false}
use mathlib.Core.Path.{◌≡◌, refl, sym}
use lib.Dec.{leb}
use lib.ListN.{length}
use Rattle.basis.specs.Pick.{pick}
use Rattle.literal.specs.Trace.{Trace, ends, fails, adds, checks, passes}
use Rattle.literal.specs.Cut.{cut}
use Rattle.literal.specs.declared.End.{End}
use Rattle.literal.specs.declared.Refusal.{Refusal}
use Rattle.literal.specs.Scans.{Scanned, accepted_as}

abbrev Alike : Scanned → Scanned → Type 0
Alike (Ok (e, m)) y = y ≡ accepted_as e m
Alike (Err x) y = (z : Refusal) × (y ≡ Err z) × (z.fault ≡ x.fault)

module _ (f g : Refusal) (same : f.fault ≡ g.fault) (limit room : ℕ) where
  alike : (n : ℕ) (t : Trace) → Alike (cut f limit room n t) (cut g limit room n t)
  unfolding cut
  alike n (ends e) = refl
  alike n (fails x) = (x, refl, refl)
  alike n (adds bs t) = by (alike (n + length bs) t) (leb (n + length bs) room)
    where
      by : Alike (cut f limit room (n + length bs) t) (cut g limit room (n + length bs) t) → (b : Bool) → Alike (pick b (cut f limit room (n + length bs) t) (Err f)) (pick b (cut g limit room (n + length bs) t) (Err g))
      by rest true = rest
      by rest false = (g, refl, sym same)
  alike n (checks x t) = by (alike n t) (passes limit n)
    where
      by : Alike (cut f limit room n t) (cut g limit room n t) → (b : Bool) → Alike (pick b (Err x) (cut f limit room n t)) (pick b (Err x) (cut g limit room n t))
      by rest true = (x, refl, refl)
      by rest false = rest

  module _ (t : Trace) where
    pub alike_accepted : {e : End} {m : ℕ} → cut f limit room 0 t ≡ accepted_as e m → cut g limit room 0 t ≡ accepted_as e m
    alike_accepted h = rw h at (alike 0 t)

    pub alike_refused : {x : Refusal} → cut f limit room 0 t ≡ Err x → (z : Refusal) × (cut g limit room 0 t ≡ Err z) × (z.fault ≡ x.fault)
    alike_refused h = rw h at (alike 0 t)
