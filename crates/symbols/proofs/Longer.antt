-- The longest symbol at a place is the longest: it stands there, and no listed symbol that stands there is longer. Assumes nothing.
use Rattle.std.specs.Prelude.{None, Some}
use Prim.Native.Nat.{ℕ, zero, suc, ◌+◌, ◌≤◌, ◌<◌}
use native.Mathlib.Omega.{arith}
use native.Mathlib.Nat.{le_refl, le_trans}
use mathlib.Core.Bool.{true}
use mathlib.Core.Path.{◌≡◌, refl}
use mathlib.Core.Logic.{◌⊎◌, inl, inr, ⊎_elim}
use mathlib.Core.List.{List, [], ◌∷◌}
use lib.Dec.{ltb}
use lib.ListN.{length, get_or, drop, length-drop}
use borrow.Author.Tests.{ltb-true, ltb-false}
use Rattle.std.proofs.lemmas.Option.{some_pair_parts}
use Rattle.basis.proofs.Cases.{pick_cases, not_both, both_left, both_right}
use Rattle.token.specs.Keywords.{KeywordEntry, keywords, blank, entry_at}
use Rattle.basis.specs.Words.{begins}
use Rattle.symbols.specs.Symbols.{is_symbol, stands, standing, longer, longest_in, longest_of, longest_symbol_of}
use Rattle.symbols.specs.Found.{Longest, symbol_as}
use Rattle.token.proofs.Places.{many}
use Rattle.keywords.proofs.Same.{begins_within}

-- a place has the token t and a text of n bytes that stands at the front of s
pub record Stands (s : List ℕ) (t n : ℕ) : Type 0 where
  pub place : ℕ
  pub within : place < 153
  pub token : (entry_at place).token ≡ t
  pub size : length (entry_at place).text ≡ n
  pub there : stands s (entry_at place) ≡ true

-- the length of a symbol, 0 for nothing
unfoldable pub size_of : Longest → ℕ
size_of None = 0
size_of (Some (t, n)) = n

-- ---- the longer of two is one of them, and no shorter than either
one_of : (a b r : Longest) → longer a b ≡ r → (a ≡ r) ⊎ (b ≡ r)
unfolding longer
one_of None b r e = inr e
one_of (Some (t, n)) None r e = inl e
one_of (Some (t, n)) (Some (u, m)) r e =
    pick_cases (λ (l : Longest). l ≡ r → (symbol_as t n ≡ r) ⊎ (symbol_as u m ≡ r)) (ltb n m) (symbol_as u m) (symbol_as t n) (λ z g. inr g) (λ z g. inl g) e

no_shorter : (a b : Longest) → (size_of a ≤ size_of (longer a b)) × (size_of b ≤ size_of (longer a b))
unfolding longer size_of
no_shorter None b = (omega arith, le_refl (size_of b))
no_shorter (Some (t, n)) None = (le_refl n, omega arith)
no_shorter (Some (t, n)) (Some (u, m)) =
    pick_cases (λ (l : Longest). (n ≤ size_of l) × (m ≤ size_of l)) (ltb n m) (symbol_as u m) (symbol_as t n)
    (λ z. (omega (arith, ltb-true n m z), omega arith))
    (λ z. (omega arith, omega (arith, ltb-false n m z)))

-- ---- of any places
module _ (s : List ℕ) where
  standing_size : (e : KeywordEntry) → stands s e ≡ true → size_of (standing s e) ≡ length e.text
  unfolding standing size_of
  standing_size e z = rw z

  record Has (es : List KeywordEntry) (t n : ℕ) : Type 0 where
    place : ℕ
    within : place < length es
    token : (get_or es place blank).token ≡ t
    size : length (get_or es place blank).text ≡ n
    there : stands s (get_or es place blank) ≡ true

  standing_has : (e : KeywordEntry) (es : List KeywordEntry) (t n : ℕ) → standing s e ≡ symbol_as t n → Has (e ∷ es) t n
  unfolding standing
  standing_has e es t n =
      pick_cases (λ (l : Longest). l ≡ symbol_as t n → Has (e ∷ es) t n) (stands s e) (symbol_as e.token (length e.text)) None
      (λ z g. let p = some_pair_parts e.token t (length e.text) n g in record { place = 0; within = omega arith; token = p.0; size = p.1; there = z })
      (λ z g. let y : ◌≡◌ {A = ℕ} 0 1 = cc in absurd (omega arith))

  longest_has : (es : List KeywordEntry) (t n : ℕ) → longest_in es s ≡ symbol_as t n → Has es t n
  unfolding longest_in
  longest_has [] t n e = let y : ◌≡◌ {A = ℕ} 0 1 = cc in absurd (omega arith)
  longest_has (d ∷ es) t n e =
      ⊎_elim (standing_has d es t n)
      (λ g. let h = longest_has es t n g in record { place = suc h.place; within = omega (arith, h.within); token = h.token; size = h.size; there = h.there })
      (one_of (standing s d) (longest_in es s) (symbol_as t n) e)

  longest_most : (es : List KeywordEntry) (k : ℕ) → k < length es → stands s (get_or es k blank) ≡ true → length (get_or es k blank).text ≤ size_of (longest_in es s)
  unfolding longest_in
  longest_most [] k h z = absurd (omega arith)
  longest_most (d ∷ es) zero h z = rw (standing_size d z) at (no_shorter (standing s d) (longest_in es s)).0
  longest_most (d ∷ es) (suc k) h z = le_trans (longest_most es k (omega arith) z) (no_shorter (standing s d) (longest_in es s)).1

  -- what stands is not empty, and within the text
  symbol_some : (w : List ℕ) → is_symbol w ≡ true → 0 < length w
  unfolding is_symbol
  symbol_some [] z = not_both z refl
  symbol_some (b ∷ w) z = omega arith

  stands_some : (e : KeywordEntry) → stands s e ≡ true → 0 < length e.text
  unfolding stands
  stands_some e z = symbol_some e.text (both_left (is_symbol e.text) _ z)

  stands_within : (e : KeywordEntry) → stands s e ≡ true → length e.text ≤ length s
  unfolding stands
  stands_within e z = begins_within e.text s (both_left (begins e.text s) _ (both_right (is_symbol e.text) _ z))

-- ---- of the listed places
module _ (s : List ℕ) where
  listed_most : (k : ℕ) → k < 153 → stands s (entry_at k) ≡ true → length (entry_at k).text ≤ size_of (longest_of s)
  unfolding entry_at longest_of
  listed_most k h z = longest_most s keywords k (rw many h) z

  pub nothing_longest : longest_of s ≡ None → (k : ℕ) → k < 153 → stands s (entry_at k) ≡ true → ⊥
  unfolding size_of
  nothing_longest e k h z = omega (arith, rw e at (listed_most k h z), stands_some s (entry_at k) z)

  module _ (t n : ℕ) (e : longest_of s ≡ symbol_as t n) where
    pub symbol_stands : Stands s t n
    unfolding longest_of entry_at
    symbol_stands =
        let h = longest_has s keywords t n e in
        record { place = h.place; within = rw many at h.within; token = h.token; size = h.size; there = h.there }

    pub symbol_longest : (k : ℕ) → k < 153 → stands s (entry_at k) ≡ true → length (entry_at k).text ≤ n
    unfolding size_of
    symbol_longest k h z = rw e at (listed_most k h z)

    pub symbol_within : (0 < n) × (n ≤ length s)
    symbol_within =
        let r = symbol_stands in
        (omega (arith, r.size, stands_some s (entry_at r.place) r.there), omega (arith, r.size, stands_within s (entry_at r.place) r.there))

-- at an offset of a text
pub offset_within : (text : List ℕ) (at t n : ℕ) → longest_symbol_of text at ≡ symbol_as t n → (0 < n) × (at + n ≤ length text)
unfolding longest_symbol_of
offset_within text at t n e =
    let r = symbol_within (drop at text) t n e in
    (r.0, omega (arith, r.0, r.1, length-drop at text))
