-- The longest symbol at the front of a text is told by its first three bytes, and by whether an identifier goes on behind them: one computed test over the list says that no symbol is longer, and that none has the byte 0, which stands for the end. Assumes nothing.
use Rattle.std.specs.Prelude.{None}
use Prim.Native.Nat.{ℕ}
use mathlib.Core.Bool.{Bool, true, false}
use mathlib.Core.Path.{◌≡◌, refl, ap}
use mathlib.Core.List.{List, [], ◌∷◌}
use lib.Dec.{T, eqb, eqb→eq}
use lib.ListN.{length, get_or}
use Rattle.basis.specs.Pick.{pick, both, either, isnt}
use Rattle.basis.specs.Words.{word, begins}
use Rattle.basis.proofs.Cases.{true_left, true_right}
use Rattle.classes.specs.Class.{is_id_first_alphabetic, is_id_continue}
use Rattle.token.specs.Tokens as Token
use Rattle.token.specs.Keywords.{KeywordEntry, keywords}
use Rattle.symbols.specs.Symbols.{is_symbol, stands, standing, longer, longest_in, longest_of}
use Rattle.symbols.specs.Found.{Longest, symbol_as}

-- ---- the definitions of `specs/Symbols.antt`, asked of bytes
-- a word of three bytes at most stands where the bytes a, b, c do
abbrev begins_by : List ℕ → ℕ → ℕ → ℕ → Bool
begins_by [] a b c = true
begins_by (x ∷ []) a b c = eqb x a
begins_by (x ∷ (y ∷ [])) a b c = both (eqb x a) (eqb y b)
begins_by (x ∷ (y ∷ (z ∷ w))) a b c = both (eqb x a) (both (eqb y b) (eqb z c))

-- and another test holds, asked behind the first byte's: so a word is ruled out by its first byte alone
abbrev begins_and : Bool → List ℕ → ℕ → ℕ → ℕ → Bool
begins_and t [] a b c = t
begins_and t (x ∷ []) a b c = both (eqb x a) t
begins_and t (x ∷ (y ∷ [])) a b c = both (eqb x a) (both t (eqb y b))
begins_and t (x ∷ (y ∷ (z ∷ w))) a b c = both (eqb x a) (both t (both (eqb y b) (eqb z c)))

-- a place's symbol stands there, where `on` says that an identifier goes on behind three bytes
abbrev stands_by : KeywordEntry → ℕ → ℕ → ℕ → Bool → Bool
stands_by e a b c on = both (is_symbol e.text) (begins_and (isnt (both (eqb e.token Token.NotIn) on)) e.text a b c)

abbrev pub longest_by : List KeywordEntry → ℕ → ℕ → ℕ → Bool → Longest
longest_by [] a b c on = None
longest_by (e ∷ es) a b c on = longer (pick (stands_by e a b c on) (symbol_as e.token (length e.text)) None) (longest_by es a b c on)

-- ---- the test: a symbol has one byte to three, none of them 0, and `!in` has three
abbrev short : List ℕ → Bool
short [] = true
short (x ∷ []) = isnt (eqb x 0)
short (x ∷ (y ∷ [])) = both (isnt (eqb x 0)) (isnt (eqb y 0))
short (x ∷ (y ∷ (z ∷ []))) = both (isnt (eqb x 0)) (both (isnt (eqb y 0)) (isnt (eqb z 0)))
short (x ∷ (y ∷ (z ∷ (v ∷ w)))) = false

abbrev fits : KeywordEntry → Bool
fits e = either (isnt (is_symbol e.text)) (both (short e.text) (either (isnt (eqb e.token Token.NotIn)) (eqb (length e.text) 3)))

abbrev every : List KeywordEntry → Bool
every [] = true
every (e ∷ es) = both (fits e) (every es)

checked : T (every keywords)
unfolding keywords word is_symbol is_id_first_alphabetic
checked = tt

-- ---- what it shows
not_zero : (t : Bool) → T (isnt t) → t ≡ false
not_zero true h = absurd h
not_zero false h = refl

both_yes : (t : Bool) → both t true ≡ t
both_yes true = refl
both_yes false = refl

begins_by_lem : (w s : List ℕ) → T (short w) → begins w s ≡ begins_by w (get_or s 0 0) (get_or s 1 0) (get_or s 2 0)
unfolding begins
begins_by_lem [] s h = refl
begins_by_lem (x ∷ []) [] h = rw (not_zero (eqb x 0) h)
begins_by_lem (x ∷ []) (a ∷ s) h = both_yes (eqb x a)
begins_by_lem (x ∷ (y ∷ [])) [] h = rw (not_zero (eqb x 0) (true_left (isnt (eqb x 0)) (isnt (eqb y 0)) h))
begins_by_lem (x ∷ (y ∷ [])) (a ∷ []) h = rw (not_zero (eqb y 0) (true_right (isnt (eqb x 0)) (isnt (eqb y 0)) h))
begins_by_lem (x ∷ (y ∷ [])) (a ∷ (b ∷ s)) h = ap (both (eqb x a)) (both_yes (eqb y b))
begins_by_lem (x ∷ (y ∷ (z ∷ []))) [] h = rw (not_zero (eqb x 0) (true_left (isnt (eqb x 0)) (both (isnt (eqb y 0)) (isnt (eqb z 0))) h))
begins_by_lem (x ∷ (y ∷ (z ∷ []))) (a ∷ []) h =
    let g = true_right (isnt (eqb x 0)) (both (isnt (eqb y 0)) (isnt (eqb z 0))) h in
    rw (not_zero (eqb y 0) (true_left (isnt (eqb y 0)) (isnt (eqb z 0)) g))
begins_by_lem (x ∷ (y ∷ (z ∷ []))) (a ∷ (b ∷ [])) h =
    let g = true_right (isnt (eqb x 0)) (both (isnt (eqb y 0)) (isnt (eqb z 0))) h in
    rw (not_zero (eqb z 0) (true_right (isnt (eqb y 0)) (isnt (eqb z 0)) g))
begins_by_lem (x ∷ (y ∷ (z ∷ []))) (a ∷ (b ∷ (c ∷ s))) h = ap (λ (t : Bool). both (eqb x a) (both (eqb y b) t)) (both_yes (eqb z c))
begins_by_lem (x ∷ (y ∷ (z ∷ (v ∷ w)))) s h = absurd h

turn : (p q t : Bool) → both (both p q) t ≡ both p (both t q)
turn true true true = refl
turn true true false = refl
turn true false true = refl
turn true false false = refl
turn false q t = refl

begins_and_lem : (t : Bool) (w : List ℕ) (a b c : ℕ) → both (begins_by w a b c) t ≡ begins_and t w a b c
begins_and_lem t [] a b c = refl
begins_and_lem t (x ∷ []) a b c = refl
begins_and_lem t (x ∷ (y ∷ [])) a b c = turn (eqb x a) (eqb y b) t
begins_and_lem t (x ∷ (y ∷ (z ∷ w))) a b c = turn (eqb x a) (both (eqb y b) (eqb z c)) t

module _ (s : List ℕ) where
  stands_by_lem : (e : KeywordEntry) → T (fits e) → stands s e ≡ stands_by e (get_or s 0 0) (get_or s 1 0) (get_or s 2 0) (is_id_continue (get_or s 3 0))
  unfolding stands
  stands_by_lem e h = by (is_symbol e.text) (eqb e.token Token.NotIn) h
    where
      by : (p n : Bool) → T (either (isnt p) (both (short e.text) (either (isnt n) (eqb (length e.text) 3)))) →
          both p (both (begins e.text s) (isnt (both n (is_id_continue (get_or s (length e.text) 0)))))
          ≡ both p (begins_and (isnt (both n (is_id_continue (get_or s 3 0)))) e.text (get_or s 0 0) (get_or s 1 0) (get_or s 2 0))
      by false n g = refl
      by true false g = rw (begins_by_lem e.text s (true_left (short e.text) true g)) (begins_and_lem true e.text _ _ _)
      by true true g =
          let l : length e.text ≡ 3 = eqb→eq (length e.text) 3 (true_right (short e.text) _ g) in
          rw (l, begins_by_lem e.text s (true_left (short e.text) _ g)) (begins_and_lem _ e.text _ _ _)

  longest_by_lem : (es : List KeywordEntry) → T (every es) → longest_in es s ≡ longest_by es (get_or s 0 0) (get_or s 1 0) (get_or s 2 0) (is_id_continue (get_or s 3 0))
  unfolding longest_in standing
  longest_by_lem [] h = refl
  longest_by_lem (e ∷ es) h = rw (stands_by_lem e (true_left (fits e) (every es) h), longest_by_lem es (true_right (fits e) (every es) h))

  pub by_bytes : longest_of s ≡ longest_by keywords (get_or s 0 0) (get_or s 1 0) (get_or s 2 0) (is_id_continue (get_or s 3 0))
  unfolding longest_of
  by_bytes = longest_by_lem keywords checked
