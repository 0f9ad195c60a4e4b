-- The place where a stretch ends is small where its start is. Assumes nothing.
use Prim.Native.Nat.{ℕ}
use mathlib.Core.List.{List}
use Rattle.basis.proofs.Cases.{pick_cases}
use Rattle.position.proofs.Small.{Small, advanced_small}
use Rattle.chars.specs.declared.cursor.Cursor.{Cursor}
use Rattle.chars.proofs.Keeps.{Kept, scan_keeps}
use Rattle.chars.specs.Ends.{goes_on_in, stretch_rule, stretch_end}
use Rattle.chars.specs.declared.stretch.Stretch.{Stretch}

pub end_small : (what : Stretch) (t : List ℕ) (s : Cursor) → Small s.place → Small (stretch_end what t s).place
unfolding stretch_end
end_small what t s h =
    scan_keeps (stretch_rule what) t Small (λ c. Small c.place) (λ at p k. k)
    (λ at c w p e k. pick_cases (Kept (stretch_rule what) t Small (λ c. Small c.place)) (goes_on_in what c) _ _ (λ y. advanced_small k) (λ n. k))
    (λ n r k. k) s.at s.place h
