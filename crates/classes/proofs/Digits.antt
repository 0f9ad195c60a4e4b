-- A digit that was found is the number of the definition, and below 16; where none was found that number is not. Assumes nothing.
use Prim.Native.Nat.{ℕ, ◌≤◌, ◌<◌}
use native.Mathlib.Omega.{arith}
use mathlib.Core.Bool.{Bool, true, false}
use mathlib.Core.Path.{◌≡◌, refl}
use lib.Dec.{leb}
use borrow.Author.Tests.{leb-true, leb-false}
use Rattle.std.specs.Prelude.{Some, None}
use Rattle.basis.specs.Pick.{pick}
use Rattle.classes.specs.Class.{digit_of, hex_digit}

-- told apart by the test
found : (n d : ℕ) → Some d ≡ pick (leb 16 n) None (Some n) → (d ≡ n) × (d < 16)
found n d = by (leb 16 n) refl
  where
    by : (t : Bool) → leb 16 n ≡ t → Some d ≡ pick t None (Some n) → (d ≡ n) × (d < 16)
    by true e k = cc
    by false e k = let z : n < 16 = leb-false 16 n e in let q : d ≡ n = cc in (q, omega arith)

missed : (n : ℕ) → None ≡ pick (leb 16 n) None (Some n) → 16 ≤ n
missed n = by (leb 16 n) refl
  where
    by : (t : Bool) → leb 16 n ≡ t → None ≡ pick t None (Some n) → 16 ≤ n
    by true e k = leb-true 16 n e
    by false e k = cc

module _ (c : ℕ) where
  pub digit_found : {d : ℕ} → Some d ≡ hex_digit c → (d ≡ digit_of c) × (d < 16)
  unfolding hex_digit
  digit_found {d} e = found (digit_of c) d e

  pub digit_missed : None ≡ hex_digit c → 16 ≤ digit_of c
  unfolding hex_digit
  digit_missed e = missed (digit_of c) e
