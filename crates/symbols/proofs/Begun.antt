-- What the code answers behind each first byte is the longest of the listed symbols that begin with it. Assumes nothing.
use Rattle.std.specs.Prelude.{None, Some}
use Prim.Native.Nat.{ℕ, zero-le, ◌≤◌, ◌<◌}
use native.Mathlib.Omega.{arith}
use mathlib.Core.Bool.{Bool, true, false}
use mathlib.Core.Path.{◌≡◌, refl, sym}
use mathlib.Core.List.{List, [], ◌∷◌}
use lib.Dec.{T, eqb}
use lib.ListN.{length, get_or, get_or-eq_default}
use borrow.Author.Tests.{eq-eqb, ne_eqb, eqb-true, eqb-false}
use Rattle.basis.specs.Pick.{pick, both, isnt}
use Rattle.basis.specs.Words.{word}
use Rattle.basis.proofs.Cases.{not_both}
use Rattle.classes.specs.Class.{is_numeric_digit, is_id_first_alphabetic, is_id_continue}
use Rattle.token.specs.Tokens.{among_tokens}
use Rattle.token.specs.Tokens as Token
use Rattle.token.specs.Keywords.{keywords}
use Rattle.token.proofs.Arms.{Arm, arm, run, OnRun, run_is, Answers, Past}
use Rattle.symbols.specs.Symbols.{is_symbol, longer, longest_of}
use Rattle.symbols.specs.Begun.{followed_of, assigned_of, doubled_of, dots_of, bang_of, question_of, map_start_of}
use Rattle.symbols.specs.Found.{Longest, symbol_as}
use Rattle.symbols.proofs.Fronts.{longest_by, by_bytes}

-- a test of two bytes either way round
turned : (x y : ℕ) → eqb x y ≡ eqb y x
turned x y = go (eqb y x) refl
  where
    go : (t : Bool) → eqb y x ≡ t → eqb x y ≡ t
    go true e = eq-eqb x y (sym (eqb-true y x e))
    go false e = ne_eqb x y (λ z. eqb-false y x e (sym z))

-- past the end no identifier goes on
pub not_on : (s : List ℕ) (i : ℕ) → length s ≤ i → is_id_continue (get_or s i 0) ≡ false
unfolding is_id_continue is_id_first_alphabetic is_numeric_digit
not_on s i h = rw (get_or-eq_default s 0 h)

-- ---- the longest of candidates
abbrev best : List Longest → Longest
best [] = None
best (l ∷ ls) = longer l (best ls)

-- a candidate that stands if a test holds
abbrev if' : Bool → ℕ → ℕ → Longest
if' t token n = pick t (symbol_as token n) None

-- ---- each answer of the code as the longest of candidates, in the order of the list
pub followed_is : (b one second two : ℕ) → followed_of b one second two ≡ best (symbol_as one 1 ∷ if' (eqb second b) two 2 ∷ [])
unfolding followed_of longer
followed_is b one second two = rw (turned b second) (by (eqb second b))
  where
    by : (t : Bool) → pick t (symbol_as two 2) (symbol_as one 1) ≡ best (symbol_as one 1 ∷ if' t two 2 ∷ [])
    by true = refl
    by false = refl

pub assigned_is : (b one assign second two : ℕ) → assigned_of b one assign second two ≡ best (symbol_as one 1 ∷ if' (eqb 0x3D b) assign 2 ∷ if' (eqb second b) two 2 ∷ [])
unfolding assigned_of followed_of longer
assigned_is b one assign second two = rw (turned b 0x3D, turned b second) (by (eqb 0x3D b) (eqb second b))
  where
    by : (t u : Bool) → pick t (symbol_as assign 2) (pick u (symbol_as two 2) (symbol_as one 1)) ≡ best (symbol_as one 1 ∷ if' t assign 2 ∷ if' u two 2 ∷ [])
    by true true = refl
    by true false = refl
    by false true = refl
    by false false = refl

-- a byte is not `=` and another
apart : (first b : ℕ) → eqb 0x3D first ≡ false → eqb first b ≡ true → eqb 0x3D b ≡ false
apart first b d e = rw (sym (eqb-true first b e)) d

pub doubled_is : (b c first one assign two three : ℕ) → eqb 0x3D first ≡ false →
    doubled_of b c first one assign two three ≡ best (symbol_as one 1 ∷ if' (eqb 0x3D b) assign 2 ∷ if' (eqb first b) two 2 ∷ if' (both (eqb first b) (eqb 0x3D c)) three 3 ∷ [])
unfolding doubled_of followed_of longer
doubled_is b c first one assign two three d =
    rw (turned b 0x3D, turned b first, turned c 0x3D) (by (eqb 0x3D b) (eqb first b) (eqb 0x3D c) (apart first b d))
  where
    by : (t u v : Bool) → (u ≡ true → t ≡ false) →
        pick u (pick v (symbol_as three 3) (symbol_as two 2)) (pick t (symbol_as assign 2) (symbol_as one 1))
        ≡ best (symbol_as one 1 ∷ if' t assign 2 ∷ if' u two 2 ∷ if' (both u v) three 3 ∷ [])
    by true true v n = not_both refl (n refl)
    by true false v n = refl
    by false true true n = refl
    by false true false n = refl
    by false false v n = refl

pub dots_is : (b c : ℕ) → dots_of b c ≡ best (symbol_as Token.Period 1 ∷ if' (eqb 0x2E b) Token.ExclusiveRange 2 ∷ if' (both (eqb 0x2E b) (eqb 0x3D c)) Token.InclusiveRange 3 ∷ [])
unfolding dots_of longer
dots_is b c = rw (turned b 0x2E, turned c 0x3D) (by (eqb 0x2E b) (eqb 0x3D c))
  where
    by : (t u : Bool) → pick t (pick u (symbol_as Token.InclusiveRange 3) (symbol_as Token.ExclusiveRange 2)) (symbol_as Token.Period 1)
        ≡ best (symbol_as Token.Period 1 ∷ if' t Token.ExclusiveRange 2 ∷ if' (both t u) Token.InclusiveRange 3 ∷ [])
    by true true = refl
    by true false = refl
    by false u = refl

pub bang_is : (b c : ℕ) (on : Bool) →
    bang_of b c on ≡ best (symbol_as Token.Bang 1 ∷ if' (eqb 0x3D b) Token.NotEqualsTo 2 ∷ if' (both (isnt on) (both (eqb 0x69 b) (eqb 0x6E c))) Token.NotIn 3 ∷ [])
unfolding bang_of followed_of longer
bang_is b c on = rw (turned b 0x3D, turned b 0x69, turned c 0x6E) (by (eqb 0x3D b) (eqb 0x69 b) (eqb 0x6E c) on (apart 0x69 b refl))
  where
    by : (t u v w : Bool) → (u ≡ true → t ≡ false) →
        pick u (pick v (pick w (symbol_as Token.Bang 1) (symbol_as Token.NotIn 3)) (symbol_as Token.Bang 1)) (pick t (symbol_as Token.NotEqualsTo 2) (symbol_as Token.Bang 1))
        ≡ best (symbol_as Token.Bang 1 ∷ if' t Token.NotEqualsTo 2 ∷ if' (both (isnt w) (both u v)) Token.NotIn 3 ∷ [])
    by true true v w n = not_both refl (n refl)
    by true false v true n = refl
    by true false v false n = refl
    by false true true true n = refl
    by false true true false n = refl
    by false true false true n = refl
    by false true false false n = refl
    by false false v true n = refl
    by false false v false n = refl

pub question_is : (b : ℕ) → question_of b ≡ best (if' (eqb 0x2E b) Token.Elvis 2 ∷ if' (eqb 0x5B b) Token.QuestionBracket 2 ∷ if' (eqb 0x3F b) Token.DoubleQuestion 2 ∷ [])
unfolding question_of longer
question_is b = rw (turned b 0x2E, turned b 0x5B, turned b 0x3F) (by (eqb 0x2E b) (eqb 0x5B b) (eqb 0x3F b))
  where
    by : (t u v : Bool) → pick t (symbol_as Token.Elvis 2) (pick u (symbol_as Token.QuestionBracket 2) (pick v (symbol_as Token.DoubleQuestion 2) None))
        ≡ best (if' t Token.Elvis 2 ∷ if' u Token.QuestionBracket 2 ∷ if' v Token.DoubleQuestion 2 ∷ [])
    by true true true = refl
    by true true false = refl
    by true false true = refl
    by true false false = refl
    by false true true = refl
    by false true false = refl
    by false false true = refl
    by false false false = refl

pub hash_is : (b : ℕ) → map_start_of b ≡ best (if' (eqb 0x7B b) Token.MapStart 2 ∷ [])
unfolding map_start_of longer
hash_is b = rw (turned b 0x7B) (by (eqb 0x7B b))
  where
    by : (t : Bool) → if' t Token.MapStart 2 ≡ best (if' t Token.MapStart 2 ∷ [])
    by true = refl
    by false = refl

-- neither of two is a symbol
abbrev neither : Longest → Longest → Bool
neither None None = true
neither None (Some (t, n)) = false
neither (Some (t, n)) l = false

neither_is : (l m : Longest) → T (neither l m) → l ≡ m
neither_is None None h = refl
neither_is None (Some (t, n)) h = absurd h
neither_is (Some (t, n)) m h = absurd h

-- ---- the match, by the first byte
-- an arm's answer is the longest of the symbols that begin with its byte
pub on_first : (s : List ℕ) (a : ℕ) → get_or s 0 0 ≡ a → (r : Longest) → r ≡ longest_by keywords a (get_or s 1 0) (get_or s 2 0) (is_id_continue (get_or s 3 0)) → r ≡ longest_of s
on_first s a o r p = rw (by_bytes s, o) p

-- the bytes that the arms name
abbrev firsts : List ℕ
firsts =
    0x28 ∷ 0x29 ∷ 0x5B ∷ 0x5D ∷ 0x7B ∷ 0x7D ∷ 0x2C ∷ 0x3B ∷ 0x5F ∷ 0x3A ∷ 0x3D ∷ 0x2B ∷ 0x2D ∷ 0x2F ∷ 0x25 ∷ 0x5E ∷ 0x26 ∷ 0x7C ∷ 0x2A ∷ 0x3C ∷ 0x3E ∷ 0x2E ∷ 0x21 ∷ 0x3F ∷ 0x23 ∷ []

abbrev arms_of : List ℕ → List (Arm Longest)
arms_of [] = []
arms_of (k ∷ ks) = arm (k ∷ []) None ∷ arms_of ks

abbrev nothings : Answers
nothings = record { of = Longest; none = None; same = neither; sound = neither_is }

-- no other byte begins a symbol: one computed test over them
none_first : (b c : ℕ) (on : Bool) → OnRun nothings (λ x. longest_by keywords x b c on) (arms_of firsts) (run 0 256 None ∷ [])
unfolding keywords word is_symbol is_id_first_alphabetic longer among_tokens
none_first b c on = run_is nothings (λ x. longest_by keywords x b c on) (arms_of firsts) (run 0 256 None ∷ []) tt

pub on_other : (s : List ℕ) → get_or s 0 0 < 256 → Past (Prim.Unit {0}) (arms_of firsts) (get_or s 0 0) → None ≡ longest_of s
on_other s h p = rw (by_bytes s) (none_first _ _ _ 0 (get_or s 0 0) p zero-le h)

-- and nothing begins an empty text
pub on_none : (s : List ℕ) → length s < 1 → None ≡ longest_of s
unfolding keywords word is_symbol is_id_first_alphabetic is_id_continue is_numeric_digit longer
on_none [] h = rw (by_bytes []) refl
on_none (b ∷ s) h = absurd (omega arith)
