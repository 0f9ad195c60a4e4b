-- Proofs by cases on a test. Assumes nothing.
use Prim.Native.Nat.{ℕ}
use native.Mathlib.Omega.{arith}
use mathlib.Core.Bool.{Bool, true, false}
use mathlib.Core.Path.{◌≡◌, refl, sym, ap, ◌∙◌}
use lib.Dec.{T}
use Rattle.basis.specs.Pick.{pick, both}

-- what holds of both branches holds of the choice
pub pick_cases {ℓ κ} : {A : Type ℓ} (P : A → Type κ) (b : Bool) (x y : A) → (b ≡ true → P x) → (b ≡ false → P y) → P (pick b x y)
pick_cases P true x y p q = p refl
pick_cases P false x y p q = q refl

-- no test both holds and does not
pub not_both {ℓ} : {A : Type ℓ} {b : Bool} → b ≡ true → b ≡ false → A
not_both p q = absurd (let z : true ≡ false = sym p ∙ q in let y : ◌≡◌ {A = ℕ} 0 1 = ap (λ (b : Bool). pick b 0 1) z in omega arith)

-- two tests that hold together each hold
pub both_left : (a b : Bool) → both a b ≡ true → a ≡ true
both_left true b e = refl
both_left false b e = e

pub both_right : (a b : Bool) → both a b ≡ true → b ≡ true
both_right true b e = e
both_right false b e = not_both e refl

-- and so a computed test
pub true_left : (a b : Bool) → T (both a b) → T a
true_left true b t = tt
true_left false b t = t

pub true_right : (a b : Bool) → T (both a b) → T b
true_right true b t = t
true_right false b t = absurd t

pub both_no : (a : Bool) → both a false ≡ false
both_no true = refl
both_no false = refl
