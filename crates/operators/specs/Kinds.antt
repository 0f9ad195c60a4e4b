-- `is_literal` of `types/token.rs`, `is_standard_symbol` and `is_standard_keyword` of `tokenizer.rs`, under default features, with their lists in the order of the source. A number that names no token is none of the three.
use Rattle.std.specs.Prelude.{ℕ, Bool, List, [], ◌∷◌, ltb}
use Rattle.basis.specs.Pick.{both, isnt}
use Rattle.token.specs.Tokens as Token
use Rattle.token.specs.Tokens.{among_tokens, token_count}

-- the tokens that are no literal symbol
unfoldable pub not_literal : List ℕ
not_literal =
    Token.IntegerConstant ∷ Token.FloatConstant ∷ Token.StringConstant ∷ Token.InterpolatedString ∷ Token.CharConstant
    ∷ Token.Identifier ∷ Token.Reserved ∷ Token.Custom ∷ Token.LexError ∷ Token.Comment ∷ Token.EOF
    ∷ []

-- every other token is one
unfoldable pub is_literal : ℕ → Bool
is_literal t = both (ltb t token_count) (isnt (among_tokens not_literal t))

-- the standard symbols
unfoldable pub standard_symbols : List ℕ
standard_symbols =
    Token.LeftBrace ∷ Token.RightBrace ∷ Token.LeftParen ∷ Token.RightParen ∷ Token.LeftBracket ∷ Token.RightBracket ∷ Token.Plus
    ∷ Token.UnaryPlus ∷ Token.Minus ∷ Token.UnaryMinus ∷ Token.Multiply ∷ Token.Divide ∷ Token.Modulo ∷ Token.PowerOf
    ∷ Token.LeftShift ∷ Token.RightShift ∷ Token.SemiColon ∷ Token.Colon ∷ Token.DoubleColon ∷ Token.Comma ∷ Token.Period
    ∷ Token.DoubleQuestion ∷ Token.ExclusiveRange ∷ Token.InclusiveRange ∷ Token.MapStart ∷ Token.Equals ∷ Token.LessThan
    ∷ Token.GreaterThan ∷ Token.LessThanEqualsTo ∷ Token.GreaterThanEqualsTo ∷ Token.EqualsTo ∷ Token.NotEqualsTo ∷ Token.Bang
    ∷ Token.Pipe ∷ Token.Or ∷ Token.XOr ∷ Token.Ampersand ∷ Token.And ∷ Token.PlusAssign ∷ Token.MinusAssign
    ∷ Token.MultiplyAssign ∷ Token.DivideAssign ∷ Token.LeftShiftAssign ∷ Token.RightShiftAssign ∷ Token.AndAssign
    ∷ Token.OrAssign ∷ Token.XOrAssign ∷ Token.ModuloAssign ∷ Token.PowerOfAssign ∷ Token.Elvis ∷ Token.QuestionBracket
    ∷ []

-- the token is a standard symbol
unfoldable pub is_standard_symbol : ℕ → Bool
is_standard_symbol t = among_tokens standard_symbols t

-- the standard keywords
unfoldable pub standard_keywords : List ℕ
standard_keywords =
    Token.Fn ∷ Token.Private ∷ Token.Import ∷ Token.Export ∷ Token.As ∷ Token.True ∷ Token.False ∷ Token.Let ∷ Token.Const
    ∷ Token.If ∷ Token.Else ∷ Token.Do ∷ Token.While ∷ Token.Until ∷ Token.Loop ∷ Token.For ∷ Token.In ∷ Token.Continue
    ∷ Token.Break ∷ Token.Return ∷ Token.Throw ∷ Token.Try ∷ Token.Catch
    ∷ []

-- the token is a standard keyword
unfoldable pub is_standard_keyword : ℕ → Bool
is_standard_keyword t = among_tokens standard_keywords t
