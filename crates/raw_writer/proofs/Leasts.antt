-- The theorem of specs/Writer.antt: a body's hashes are the least that no quote of it is followed by. Assumes nothing.
use Prim.Native.Nat.{ℕ, zero, suc, ◌≤◌, ◌<◌}
use native.Mathlib.Omega.{arith}
use mathlib.Core.List.{List, [], ◌∷◌, ◌++◌}
use mathlib.Core.Path.{◌≡◌, refl, sym, ap, subst}
use lib.Dec.{eqb, leb}
use lib.ListN.{drop, replicate}
use borrow.Author.Tests.{leb-true, leb-false, eqb-true}
use Rattle.basis.proofs.Cases.{pick_cases}
use Rattle.raw_writer.specs.Writer.{hashes_ahead, most_after_quote, hashes_for, Has, Leastness}
use Rattle.classes.specs.Marks.{quote, hash}

-- ---- what a body has is counted
ahead_counts : (j : ℕ) (b : List ℕ) → j ≤ hashes_ahead (replicate j hash ++ b)
unfolding hashes_ahead
ahead_counts zero b = omega arith
ahead_counts (suc j) b = omega (arith, ahead_counts j b)

most_counts : (a b : List ℕ) (j : ℕ) → j ≤ most_after_quote (a ++ quote ∷ replicate j hash ++ b)
unfolding most_after_quote
most_counts [] b j = omega (arith, ahead_counts j b)
most_counts (c ∷ a) b j = let r = most_counts a b j in pick_cases (λ (n : ℕ). j ≤ n) (eqb c quote) _ _ (λ q. omega arith) (λ q. r)

-- ---- what is counted, a body has
ahead_has : (j : ℕ) (cs : List ℕ) → j ≤ hashes_ahead cs → cs ≡ replicate j hash ++ drop j cs
unfolding hashes_ahead
ahead_has zero cs = λ h. refl
ahead_has (suc j) [] = λ h. absurd (omega arith)
ahead_has (suc j) (c ∷ cs) =
    pick_cases (λ (n : ℕ). suc j ≤ n → c ∷ cs ≡ hash ∷ replicate j hash ++ drop j cs) (eqb c hash) _ _
    (λ q h. rw (eqb-true c hash q, ← ahead_has j cs (omega arith)))
    (λ q h. absurd (omega arith))

later : (c j : ℕ) (cs : List ℕ) → Has j cs → Has j (c ∷ cs)
later c j cs h = record { before = c ∷ h.before; after = h.after; is = ap (λ (l : List ℕ). c ∷ l) h.is }

most_has : (j : ℕ) (cs : List ℕ) → 0 < j → j ≤ most_after_quote cs → Has j cs
unfolding most_after_quote
most_has j [] z = λ h. absurd (omega arith)
most_has j (c ∷ cs) z =
    pick_cases (λ (n : ℕ). j ≤ n → Has j (c ∷ cs)) (eqb c quote) _ _
    (λ q h. pick_cases (λ (n : ℕ). Has j (c ∷ cs)) (leb j (hashes_ahead cs)) 0 0
    (λ l. record { before = []; after = drop j cs; is = rw (eqb-true c quote q, ← ahead_has j cs (leb-true _ _ l)) })
    (λ l. later c j cs (most_has j cs z (omega (arith, leb-false j (hashes_ahead cs) l)))))
    (λ q h. later c j cs (most_has j cs z h))

pub leastness : Leastness
unfolding hashes_for
leastness body = record {
  positive = omega arith;
  works = λ h. let r : hashes_for body ≤ most_after_quote body = subst (λ (l : List ℕ). hashes_for body ≤ most_after_quote l) (sym h.is) (most_counts h.before h.after (hashes_for body)) in omega arith;
  no_less = λ j z l. most_has j body z (omega arith);
}
