-- What every turn of a scan keeps, the scan keeps. Assumes nothing.
use Rattle.utf8.specs.Looks.{char_found}
use Prim.Native.Nat.{ℕ, ◌+◌}
use mathlib.Core.List.{List, ◌∷◌}
use mathlib.Core.Path.{◌≡◌}
use Rattle.utf8.specs.Table.{ch, chars_at, look_at}
use Rattle.chars.specs.Scan.{Turn, go, stop, Rule, run_at}
use Rattle.chars.proofs.Holds.{scan_holds}

module _ {S N R : Type 0} (rule : Rule S N R) (t : List ℕ) (P : S → Type 0) (Q : R → Type 0) where
  -- of what a turn leads to
  abbrev pub Kept : Turn S N R → Type 0
  Kept (go n k s) = P s
  Kept (stop r) = Q r

  pub scan_keeps : ((at : ℕ) (s : S) → P s → Q (rule.end at s))
      → ((at c w : ℕ) (s : S) → look_at t at ≡ char_found c w → P s → Kept (rule.turn at (ch c w ∷ chars_at t (at + w)) s))
      → ((n : N) (r : R) → Q r → Q (rule.note n r))
      → (at : ℕ) (s : S) → P s → Q (run_at rule t at s)
  scan_keeps ended turned noted at s p =
      scan_holds rule t (λ at s r. P s → Q r) ended
      (λ at c w s r e q p. rw q at (turned at c w s e p))
      (λ at c w s n k s' e q to r h l f p. noted n r (f (rw q at (turned at c w s e p))))
      at s p
