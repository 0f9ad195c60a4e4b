-- Blocks of ASCII: how one grows byte by byte, and that a text is well formed exactly if it is so from behind one on. Assumes nothing.
use Prim.Native.Nat.{ℕ, zero, suc, ◌+◌, ◌-◌, ◌≤◌, ◌<◌}
use native.Mathlib.Omega.{arith}
use native.Mathlib.Nat.{add-zero}
use mathlib.Core.List.{List}
use mathlib.Core.Logic.{⊎_elim}
use mathlib.Core.Path.{◌≡◌, sym, ap, ◌∙◌}
use lib.ListN.{length, drop, get_or}
use Rattle.basis.proofs.Bounds.{split}
use Rattle.utf8.specs.Table.{well}
use Rattle.utf8.proofs.Laws.{well_char}
use Rattle.utf8.proofs.Bits.{look_ascii}
use Rattle.utf8.specs.Blocks.{Ascii}

module _ (s : List ℕ) (at : ℕ) where
  -- no byte, and one more
  pub no_ascii : at ≤ length s → Ascii s at (at + 0)
  no_ascii h = record { ends = omega arith; low = λ i l g. absurd (omega arith) }

  pub more_ascii : (i : ℕ) → Ascii s at (at + i) → at + i < length s → get_or s (at + i) 0 < 0x80 → Ascii s at (at + (i + 1))
  more_ascii i a h g = record {
    ends = omega arith;
    low = λ k l u. ⊎_elim (λ m. a.low k l m) (λ m. let e : k ≡ at + i = omega arith in rw e g) (split k (at + i));
  }

  pub one_ascii : at < length s → get_or s at 0 < 0x80 → Ascii s at (at + 1)
  one_ascii h g = record { ends = omega arith; low = λ k l u. let e : k ≡ at = omega arith in rw e g }

  -- behind n bytes of ASCII
  well_past : (n : ℕ) → Ascii s at (at + n) → well (drop at s) ≡ well (drop (at + n) s)
  well_past zero a = rw (add-zero at)
  well_past (suc n) a =
      let h = a.ends in
      let e : at + n + 1 ≡ at + suc n = omega arith in
      well_past n (record { ends = omega arith; low = λ i l u. a.low i l (omega arith) })
      ∙ well_char s (at + n) (sym (look_ascii s (at + n) (omega arith) 1 (a.low (at + n) (omega arith) (omega arith)) (omega arith)))
      ∙ ap (λ (k : ℕ). well (drop k s)) e

  pub well_ascii : {r : ℕ} → at < r → Ascii s at r → well (drop at s) ≡ well (drop r s)
  well_ascii {r} h a = let e : at + (r - at) ≡ r = omega arith in rw e at (well_past (r - at) (rw e a))
