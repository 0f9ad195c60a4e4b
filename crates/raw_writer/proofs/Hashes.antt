-- The measuring pass: the hashes of a body, byte by byte. Assumes nothing.
use Prim.Native.Nat.{ℕ, zero, suc, ◌+◌, ◌≤◌, ◌<◌, max}
use native.Mathlib.Omega.{arith}
use native.Mathlib.Numerals.{add-one}
use mathlib.Core.Bool.{Bool, true, false}
use mathlib.Core.List.{List, [], ◌∷◌}
use mathlib.Core.Path.{◌≡◌, refl, sym, subst, ◌∙◌}
use lib.Dec.{eqb, eqb-suc-zero}
use lib.ListN.{length, drop, get_or}
use borrow.Author.Tests.{eqb-true}
use Rattle.basis.proofs.Bytes.{here, past}
use Rattle.basis.proofs.Cases.{pick_cases}
use Rattle.raw_writer.specs.Writer.{hashes_ahead, most_after_quote, hashes_for}
use Rattle.classes.specs.Marks.{quote, hash}
use Rattle.raw_writer.specs.Step.{next_held}

-- by cases on a byte: a quote, a hash, or neither
pub byte_cases : (P : ℕ → Type 0) (c : ℕ) → P quote → P hash → (eqb c quote ≡ false → eqb c hash ≡ false → P c) → P c
byte_cases P c q h o = at_quote (eqb c quote) refl
  where
    at_hash : eqb c quote ≡ false → (b : Bool) → eqb c hash ≡ b → P c
    at_hash n true e = subst P (sym (eqb-true c hash e)) h
    at_hash n false e = o n e

    at_quote : (b : Bool) → eqb c quote ≡ b → P c
    at_quote true e = subst P (sym (eqb-true c quote e)) q
    at_quote false e = at_hash e (eqb c hash) refl

-- how long a run that is held becomes with the hashes that stand ahead
unfoldable pub reach : ℕ → List ℕ → ℕ
reach zero cs = 0
reach (suc n) cs = suc n + hashes_ahead cs

-- the largest run, where `best` was the largest so far and one of `held` bytes is open
unfoldable pub largest : ℕ → ℕ → List ℕ → ℕ
largest best held [] = best
largest best held (c ∷ cs) = largest (max best (next_held held c)) (next_held held c) cs

-- the largest of a few numbers
module _ (best : ℕ) where
  not_zero : max best 0 ≡ best
  not_zero = omega arith

  not_one : 0 < best → max best 1 ≡ best
  not_one z = omega arith

  module _ (n a m : ℕ) where
    begun : n ≤ best → max best (max (1 + a) (suc m)) ≡ max best (max (n + 0) (suc (max a m)))
    begun h = omega arith

    longer : max (max best (suc n)) (max (suc n + a) (suc m)) ≡ max best (max (n + suc a) (suc m))
    longer = omega arith

    ended : n ≤ best → max best (max 0 (suc m)) ≡ max best (max (n + 0) (suc m))
    ended h = omega arith

largest_is : (best held : ℕ) (cs : List ℕ) → held ≤ best → 0 < best → largest best held cs ≡ max best (max (reach held cs) (suc (most_after_quote cs)))
unfolding largest reach most_after_quote hashes_ahead next_held
largest_is best zero [] h z = omega arith
largest_is best (suc n) [] h z = omega arith
largest_is best zero (c ∷ cs) h z =
    byte_cases (λ x. largest best 0 (x ∷ cs) ≡ max best (max (reach 0 (x ∷ cs)) (suc (most_after_quote (x ∷ cs))))) c
    (rw (not_one best z) (largest_is best 1 cs z z ∙ begun best 0 (hashes_ahead cs) (most_after_quote cs) h))
    (rw (not_zero best) (largest_is best 0 cs h z))
    (λ q r. rw (q, r, not_zero best) (largest_is best 0 cs h z))
largest_is best (suc n) (c ∷ cs) h z =
    byte_cases (λ x. largest best (suc n) (x ∷ cs) ≡ max best (max (reach (suc n) (x ∷ cs)) (suc (most_after_quote (x ∷ cs))))) c
    (rw (not_one best z) (largest_is best 1 cs z z ∙ begun best (suc n) (hashes_ahead cs) (most_after_quote cs) h))
    (simp (eqb-suc-zero, add-one) (largest_is (max best (suc (suc n))) (suc (suc n)) cs (omega arith) (omega arith) ∙ longer best (suc n) (hashes_ahead cs) (most_after_quote cs)))
    (λ q r. rw (q, r, not_zero best) (largest_is best 0 cs (omega arith) z ∙ ended best (suc n) (hashes_ahead cs) (most_after_quote cs) h))

-- from the start, one turn, and the end
pub measure_start : (body : List ℕ) → hashes_for body ≡ largest 1 0 body
unfolding hashes_for reach
measure_start body = omega (arith, largest_is 1 0 body (omega arith) (omega arith))

module _ (best held : ℕ) (body : List ℕ) (i : ℕ) where
  pub measure_turn : i < length body → largest best held (drop i body) ≡ largest (max best (next_held held (get_or body i 0))) (next_held held (get_or body i 0)) (drop (i + 1) body)
  unfolding largest
  measure_turn h = rw (here body i h)

  pub measure_end : length body ≤ i → largest best held (drop i body) ≡ best
  unfolding largest
  measure_end h = rw (past body i h)

-- a run grows by one byte at most
pub held_grows : (held c : ℕ) → next_held held c ≤ held + 1
unfolding next_held
held_grows held c =
    let P : ℕ → Type 0 = λ n. n ≤ held + 1 in
    pick_cases P (eqb c quote) 1 _ (λ q. omega arith) (λ q.
    pick_cases P (eqb c hash) _ 0 (λ r. pick_cases P (eqb held 0) 0 (held + 1) (λ s. omega arith) (λ s. omega arith)) (λ r. omega arith))

-- no more hashes than bytes
ahead_short : (cs : List ℕ) → hashes_ahead cs ≤ length cs
unfolding hashes_ahead
ahead_short [] = omega arith
ahead_short (c ∷ cs) = let h = ahead_short cs in pick_cases (λ (n : ℕ). n ≤ suc (length cs)) (eqb c hash) _ _ (λ q. omega arith) (λ q. omega arith)

most_short : (cs : List ℕ) → most_after_quote cs ≤ length cs
unfolding most_after_quote
most_short [] = omega arith
most_short (c ∷ cs) =
    let h = most_short cs in
    let g = ahead_short cs in
    pick_cases (λ (n : ℕ). n ≤ suc (length cs)) (eqb c quote) _ _ (λ q. omega arith) (λ q. omega arith)

pub hashes_short : (body : List ℕ) → hashes_for body ≤ length body + 1
unfolding hashes_for
hashes_short body = let h = most_short body in omega arith
