-- The text of a token is the bytes of the number that it is spelt by, from the first that is not 0 on: one computed test over the tokens. Assumes nothing.
use Prim.Native.Nat.{ℕ, zero, suc, zero-le, ◌+◌, ◌-◌, ◌/◌, ◌≤◌, ◌<◌}
use native.Mathlib.Omega.{arith}
use mathlib.Core.Bool.{Bool, true, false}
use mathlib.Core.Path.{◌≡◌, refl}
use mathlib.Core.Logic.{⊎_elim}
use mathlib.Core.List.{List}
use lib.Dec.{T}
use lib.ListN.{length, take, drop, length-drop}
use lib.Seq.{take_all}
use Rattle.basis.specs.Pick.{both}
use Rattle.basis.specs.Words.{word, begins}
use Rattle.basis.proofs.Bounds.{split}
use Rattle.basis.proofs.Cases.{true_left, true_right}
use Rattle.std.specs.Int.{w64, to_be_bytes, leading_zeros}
use Rattle.token.specs.Keywords.{keywords, text_in}
use Rattle.token.specs.Spelt.{number_from, word_number, spelt_of}
use Rattle.keywords.specs.Lookup.{same_text}
use Rattle.keywords.proofs.Same.{same_text_lem}
use Rattle.syntax.specs.Syntax.{written_as, literal_syntax_of}

-- the bytes of a number, from the first that is not 0 on
abbrev bytes_of : ℕ → List ℕ
bytes_of n = drop (leading_zeros w64 n / 8) (to_be_bytes w64 n)

-- ---- the test
every : ℕ → ℕ → Bool
every zero t = true
every (suc n) t = both (same_text (bytes_of (spelt_of t)) (text_in keywords t)) (every n (suc t))

checked : T (every 256 0)
unfolding every keywords word text_in number_from word_number spelt_of same_text begins lib.Count.count_leading_zeros
checked = tt

holds : (b : Bool) → T b → b ≡ true
holds true h = refl
holds false h = absurd h

every_at : (n a t : ℕ) → T (every n a) → a ≤ t → t < a + n → bytes_of (spelt_of t) ≡ text_in keywords t
unfolding every
every_at zero a t h f u = absurd (omega arith)
every_at (suc n) a t h f u =
    ⊎_elim
    (λ g.
    let e : a ≡ t = omega arith in
    rw (← e) (same_text_lem _ _ (holds _ (true_left (same_text (bytes_of (spelt_of a)) (text_in keywords a)) (every n (suc a)) h)))
    )
    (λ g. every_at n (suc a) t (true_right (same_text (bytes_of (spelt_of a)) (text_in keywords a)) (every n (suc a)) h) g (omega arith))
    (split t (suc a))

-- what is written of the bytes of the token that a token is written as
pub syntax_is : (t u n : ℕ) → u ≡ written_as t → u < 256 → n ≡ spelt_of u →
    take (8 - leading_zeros w64 n / 8) (drop (leading_zeros w64 n / 8) (to_be_bytes w64 n)) ≡ literal_syntax_of t
unfolding literal_syntax_of
syntax_is t u n p h q =
    let k : length (bytes_of n) ≤ 8 - leading_zeros w64 n / 8 = rw length-drop (omega arith) in
    rw (take_all (8 - leading_zeros w64 n / 8) (bytes_of n) k, q, every_at 256 0 u checked zero-le h, p)
