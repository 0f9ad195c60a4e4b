-- The last arm has what the definition has for every number that no arm names; the check finds by itself that each arm has what the definition has there.
use Prim.Native.Nat.{ℕ, zero-le}
use mathlib.Core.List.{List, [], ◌∷◌}
use Rattle.basis.specs.Words.{word}
use Rattle.token.specs.Tokens as Token
use Rattle.token.specs.Tokens.{among_tokens}
use Rattle.token.specs.Keywords.{keywords, text_in}
use Rattle.token.proofs.Arms.{run, OnRun, run_is, numbers}
use Rattle.token.specs.Spelt.{number_from, word_number, spelt_of}
use Rattle.token.proofs.word_table.Keyed.{keyed_by}
use Rattle.token.proofs.word_table.spelt.Goals as goal

-- the numbers that the arms name
abbrev keys : List ℕ
keys =
    Token.LeftBrace ∷ Token.RightBrace ∷ Token.LeftParen ∷ Token.RightParen ∷ Token.LeftBracket ∷ Token.RightBracket ∷ Token.Unit ∷ Token.Plus ∷ Token.Minus ∷ Token.Multiply ∷ Token.Divide ∷ Token.Modulo ∷ Token.PowerOf ∷ Token.LeftShift ∷ Token.RightShift ∷ Token.SemiColon ∷ Token.Colon ∷ Token.DoubleColon ∷ Token.DoubleArrow ∷ Token.Underscore ∷ Token.Comma ∷ Token.Period ∷ Token.Elvis ∷ Token.DoubleQuestion ∷ Token.QuestionBracket ∷ Token.ExclusiveRange ∷ Token.InclusiveRange ∷ Token.MapStart ∷ Token.Equals ∷ Token.True ∷ Token.False ∷ Token.Let ∷ Token.Const ∷ Token.If ∷ Token.Else ∷ Token.Switch ∷ Token.Do ∷ Token.While ∷ Token.Until ∷ Token.Loop ∷ Token.For ∷ Token.In ∷ Token.NotIn ∷ Token.LessThan ∷ Token.GreaterThan ∷ Token.LessThanEqualsTo ∷ Token.GreaterThanEqualsTo ∷ Token.EqualsTo ∷ Token.NotEqualsTo ∷ Token.Bang ∷ Token.Pipe ∷ Token.Or ∷ Token.XOr ∷ Token.Ampersand ∷ Token.And ∷ Token.Fn ∷ Token.Continue ∷ Token.Break ∷ Token.Return ∷ Token.Throw ∷ Token.Try ∷ Token.Catch ∷ Token.PlusAssign ∷ Token.MinusAssign ∷ Token.MultiplyAssign ∷ Token.DivideAssign ∷ Token.LeftShiftAssign ∷ Token.RightShiftAssign ∷ Token.AndAssign ∷ Token.OrAssign ∷ Token.XOrAssign ∷ Token.ModuloAssign ∷ Token.PowerOfAssign ∷ Token.Private ∷ Token.Import ∷ Token.Export ∷ Token.As ∷ []

-- no other number has one: one computed test over them
other : OnRun numbers spelt_of (keyed_by keys) (run 0 256 0 ∷ [])
unfolding keywords word text_in number_from word_number spelt_of among_tokens
other = run_is numbers spelt_of (keyed_by keys) (run 0 256 0 ∷ []) tt

pub returns-in_default : goal.returns-in_default
returns-in_default c = search (other 0, zero-le)
