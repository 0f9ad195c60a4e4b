-- The last arm has what the definition has for every number that no arm names. Of the other arms those stand here whose definition is too long for the check to compute by itself.
use Prim.Native.Nat.{ℕ, zero-le}
use mathlib.Core.Path.{sym, ap}
use mathlib.Core.List.{List, [], ◌∷◌}
use Rattle.basis.specs.Words.{word}
use Rattle.token.specs.Tokens as Token
use Rattle.token.specs.Tokens.{among_tokens}
use Rattle.token.specs.Keywords.{keywords, text_in}
use Rattle.token.proofs.Arms.{run, OnRun, run_is, numbers}
use Rattle.token.specs.Spelt.{starts, first_in, places_behind, next_token}
use Rattle.token.proofs.word_table.Keyed.{keyed_by}
use Rattle.token.proofs.word_table.next_of.Goals as goal

-- the numbers that the arms name
abbrev keys : List ℕ
keys =
    Token.LeftParen ∷ Token.Plus ∷ Token.Minus ∷ Token.Multiply ∷ Token.Divide ∷ Token.Modulo ∷ Token.PowerOf ∷ Token.LeftShift ∷ Token.RightShift ∷ Token.Colon ∷ Token.Period ∷ Token.Elvis ∷ Token.QuestionBracket ∷ Token.ExclusiveRange ∷ Token.Equals ∷ Token.False ∷ Token.Const ∷ Token.Else ∷ Token.Loop ∷ Token.For ∷ Token.In ∷ Token.LessThan ∷ Token.GreaterThan ∷ Token.LessThanEqualsTo ∷ Token.GreaterThanEqualsTo ∷ Token.EqualsTo ∷ Token.NotEqualsTo ∷ Token.Bang ∷ Token.Pipe ∷ Token.XOr ∷ Token.Ampersand ∷ Token.Continue ∷ Token.Throw ∷ Token.Try ∷ Token.MultiplyAssign ∷ Token.AndAssign ∷ Token.OrAssign ∷ Token.Import ∷ []

-- no other number has one: one computed test over them
other : OnRun numbers next_token (keyed_by keys) (run 0 256 Token.EOF ∷ [])
unfolding keywords word text_in starts first_in places_behind next_token among_tokens
other = run_is numbers next_token (keyed_by keys) (run 0 256 Token.EOF ∷ []) tt

pub returns-in-8 : goal.returns-in-8
unfolding keywords word text_in starts first_in places_behind next_token
returns-in-8 c = sym (ap next_token c.in-8.is)

pub returns-in-17 : goal.returns-in-17
unfolding keywords word text_in starts first_in places_behind next_token
returns-in-17 c = sym (ap next_token c.in-17.is)

pub returns-in-24 : goal.returns-in-24
unfolding keywords word text_in starts first_in places_behind next_token
returns-in-24 c = sym (ap next_token c.in-24.is)

pub returns-in-29 : goal.returns-in-29
unfolding keywords word text_in starts first_in places_behind next_token
returns-in-29 c = sym (ap next_token c.in-29.is)

pub returns-in-30 : goal.returns-in-30
unfolding keywords word text_in starts first_in places_behind next_token
returns-in-30 c = sym (ap next_token c.in-30.is)

pub returns-in-38 : goal.returns-in-38
unfolding keywords word text_in starts first_in places_behind next_token
returns-in-38 c = sym (ap next_token c.in-38.is)

pub returns-in-42 : goal.returns-in-42
unfolding keywords word text_in starts first_in places_behind next_token
returns-in-42 c = sym (ap next_token c.in-42.is)

pub returns-in-47 : goal.returns-in-47
unfolding keywords word text_in starts first_in places_behind next_token
returns-in-47 c = sym (ap next_token c.in-47.is)

pub returns-in-49 : goal.returns-in-49
unfolding keywords word text_in starts first_in places_behind next_token
returns-in-49 c = sym (ap next_token c.in-49.is)

pub returns-in-54 : goal.returns-in-54
unfolding keywords word text_in starts first_in places_behind next_token
returns-in-54 c = sym (ap next_token c.in-54.is)

pub returns-in-55 : goal.returns-in-55
unfolding keywords word text_in starts first_in places_behind next_token
returns-in-55 c = sym (ap next_token c.in-55.is)

pub returns-in-67 : goal.returns-in-67
unfolding keywords word text_in starts first_in places_behind next_token
returns-in-67 c = sym (ap next_token c.in-67.is)

pub returns-in-72 : goal.returns-in-72
unfolding keywords word text_in starts first_in places_behind next_token
returns-in-72 c = sym (ap next_token c.in-72.is)

pub returns-in-76 : goal.returns-in-76
unfolding keywords word text_in starts first_in places_behind next_token
returns-in-76 c = sym (ap next_token c.in-76.is)

pub returns-in-77 : goal.returns-in-77
unfolding keywords word text_in starts first_in places_behind next_token
returns-in-77 c = sym (ap next_token c.in-77.is)

pub returns-in_default : goal.returns-in_default
returns-in_default c = search (other 0, zero-le)
