-- A list of ranges holds all of an interval l ≤ c < u or none of it, where a test on l and u that antt computes says so. So a chain of tests on thresholds meets a rule that is stated by ranges.
-- Assumes nothing.
use Prim.Native.Nat.{ℕ, suc, ◌≤◌, ◌<◌}
use native.Mathlib.Omega.{arith}
use mathlib.Core.Bool.{Bool, true, false}
use mathlib.Core.List.{List, [], ◌∷◌}
use mathlib.Core.Path.{◌≡◌, refl, sym, ◌∙◌}
use lib.Dec.{T, leb}
use borrow.Author.Tests.{le-leb, lt-leb, leb-true}
use Rattle.basis.specs.Pick.{both, either}
use Rattle.basis.proofs.Cases.{true_left, true_right, both_no}
use Rattle.utf8.specs.Table.{Range, within}
use Rattle.white.specs.White.{among_ranges}

-- the range lies above the interval, below it, or around it
abbrev pub clear : Range → ℕ → ℕ → Bool
clear r l u = either (leb u r.low) (either (leb (suc r.high) l) (both (leb r.low l) (leb u (suc r.high))))

-- and so does every range of the list
abbrev pub steady : List Range → ℕ → ℕ → Bool
steady [] l u = true
steady (r ∷ rs) l u = both (clear r l u) (steady rs l u)

module _ (c l u : ℕ) (h : l ≤ c) (g : c < u) where
  one : (r : Range) → T (clear r l u) → within r l ≡ within r c
  one r t = go (leb u r.low) (leb (suc r.high) l) (leb r.low l) (leb u (suc r.high)) refl refl refl refl t
    where
      go : (a b d e : Bool) → leb u r.low ≡ a → leb (suc r.high) l ≡ b → leb r.low l ≡ d → leb u (suc r.high) ≡ e → T (either a (either b (both d e))) → within r l ≡ within r c
      go true b d e p q m n z = let w = leb-true u r.low p in rw (lt-leb r.low l (omega arith), lt-leb r.low c (omega arith))
      go false true d e p q m n z = let w = leb-true (suc r.high) l q in rw (lt-leb l r.high (omega arith), lt-leb c r.high (omega arith)) (both_no (leb r.low l) ∙ sym (both_no (leb r.low c)))
      go false false true true p q m n z = let w = leb-true r.low l m in let v = leb-true u (suc r.high) n in simp (le-leb r.low l w, le-leb r.low c (omega arith), le-leb l r.high (omega arith), le-leb c r.high (omega arith))
      go false false true false p q m n z = absurd z
      go false false false true p q m n z = absurd z
      go false false false false p q m n z = absurd z

  pub among_steady : (rs : List Range) → T (steady rs l u) → among_ranges rs l ≡ among_ranges rs c
  among_steady [] t = refl
  among_steady (r ∷ rs) t = rw (one r (true_left (clear r l u) (steady rs l u) t), among_steady rs (true_right (clear r l u) (steady rs l u) t))
