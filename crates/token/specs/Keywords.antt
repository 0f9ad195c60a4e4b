-- `KEYWORDS_LIST` of `types/token.rs`, under default features: 153 places, each with a text and its token, in the order of the source. An empty text lists nothing.
use Rattle.std.specs.Prelude.{ℕ, List, [], ◌∷◌, eqb, get_or}
use Prim.Native.String.{String}
use Rattle.basis.specs.Types.{Text}
use Rattle.basis.specs.Pick.{pick}
use Rattle.basis.specs.Words.{word}
use Rattle.token.specs.Tokens as Token

-- a place: its text, and the token that the text is
pub record KeywordEntry : Type 0 where
  pub text : Text
  pub token : ℕ

-- a place as the source writes it
abbrev pub keyword_entry : String → ℕ → KeywordEntry
keyword_entry s t = record { text = word s; token = t }

-- the list
unfoldable pub keywords : List KeywordEntry
keywords =
    keyword_entry "" Token.EOF
    ∷ keyword_entry ">" Token.GreaterThan
    ∷ keyword_entry ">=" Token.GreaterThanEqualsTo
    ∷ keyword_entry ")" Token.RightParen
    ∷ keyword_entry "" Token.EOF
    ∷ keyword_entry "const" Token.Const
    ∷ keyword_entry "=" Token.Equals
    ∷ keyword_entry "==" Token.EqualsTo
    ∷ keyword_entry "continue" Token.Continue
    ∷ keyword_entry "" Token.EOF
    ∷ keyword_entry "catch" Token.Catch
    ∷ keyword_entry "<" Token.LessThan
    ∷ keyword_entry "<=" Token.LessThanEqualsTo
    ∷ keyword_entry "for" Token.For
    ∷ keyword_entry "loop" Token.Loop
    ∷ keyword_entry "" Token.EOF
    ∷ keyword_entry "." Token.Period
    ∷ keyword_entry "<<" Token.LeftShift
    ∷ keyword_entry "<<=" Token.LeftShiftAssign
    ∷ keyword_entry "" Token.EOF
    ∷ keyword_entry "false" Token.False
    ∷ keyword_entry "*" Token.Multiply
    ∷ keyword_entry "*=" Token.MultiplyAssign
    ∷ keyword_entry "let" Token.Let
    ∷ keyword_entry "" Token.EOF
    ∷ keyword_entry "while" Token.While
    ∷ keyword_entry "+" Token.Plus
    ∷ keyword_entry "+=" Token.PlusAssign
    ∷ keyword_entry "" Token.EOF
    ∷ keyword_entry "" Token.EOF
    ∷ keyword_entry "throw" Token.Throw
    ∷ keyword_entry "}" Token.RightBrace
    ∷ keyword_entry ">>" Token.RightShift
    ∷ keyword_entry ">>=" Token.RightShiftAssign
    ∷ keyword_entry "" Token.EOF
    ∷ keyword_entry "" Token.EOF
    ∷ keyword_entry ";" Token.SemiColon
    ∷ keyword_entry "=>" Token.DoubleArrow
    ∷ keyword_entry "" Token.EOF
    ∷ keyword_entry "else" Token.Else
    ∷ keyword_entry "" Token.EOF
    ∷ keyword_entry "/" Token.Divide
    ∷ keyword_entry "/=" Token.DivideAssign
    ∷ keyword_entry "" Token.EOF
    ∷ keyword_entry "" Token.EOF
    ∷ keyword_entry "" Token.EOF
    ∷ keyword_entry "{" Token.LeftBrace
    ∷ keyword_entry "**" Token.PowerOf
    ∷ keyword_entry "**=" Token.PowerOfAssign
    ∷ keyword_entry "" Token.EOF
    ∷ keyword_entry "" Token.EOF
    ∷ keyword_entry "|" Token.Pipe
    ∷ keyword_entry "|=" Token.OrAssign
    ∷ keyword_entry "" Token.EOF
    ∷ keyword_entry "" Token.EOF
    ∷ keyword_entry "" Token.EOF
    ∷ keyword_entry ":" Token.Colon
    ∷ keyword_entry ".." Token.ExclusiveRange
    ∷ keyword_entry "..=" Token.InclusiveRange
    ∷ keyword_entry "" Token.EOF
    ∷ keyword_entry "until" Token.Until
    ∷ keyword_entry "switch" Token.Switch
    ∷ keyword_entry "private" Token.Private
    ∷ keyword_entry "try" Token.Try
    ∷ keyword_entry "true" Token.True
    ∷ keyword_entry "break" Token.Break
    ∷ keyword_entry "return" Token.Return
    ∷ keyword_entry "fn" Token.Fn
    ∷ keyword_entry "" Token.EOF
    ∷ keyword_entry "" Token.EOF
    ∷ keyword_entry "" Token.EOF
    ∷ keyword_entry "import" Token.Import
    ∷ keyword_entry "?." Token.Elvis
    ∷ keyword_entry "" Token.EOF
    ∷ keyword_entry "" Token.EOF
    ∷ keyword_entry "" Token.EOF
    ∷ keyword_entry "export" Token.Export
    ∷ keyword_entry "in" Token.In
    ∷ keyword_entry "" Token.EOF
    ∷ keyword_entry "" Token.EOF
    ∷ keyword_entry "" Token.EOF
    ∷ keyword_entry "(" Token.LeftParen
    ∷ keyword_entry "||" Token.Or
    ∷ keyword_entry "" Token.EOF
    ∷ keyword_entry "" Token.EOF
    ∷ keyword_entry "" Token.EOF
    ∷ keyword_entry "^" Token.XOr
    ∷ keyword_entry "^=" Token.XOrAssign
    ∷ keyword_entry "" Token.EOF
    ∷ keyword_entry "" Token.EOF
    ∷ keyword_entry "" Token.EOF
    ∷ keyword_entry "_" Token.Underscore
    ∷ keyword_entry "::" Token.DoubleColon
    ∷ keyword_entry "" Token.EOF
    ∷ keyword_entry "" Token.EOF
    ∷ keyword_entry "" Token.EOF
    ∷ keyword_entry "-" Token.Minus
    ∷ keyword_entry "-=" Token.MinusAssign
    ∷ keyword_entry "" Token.EOF
    ∷ keyword_entry "" Token.EOF
    ∷ keyword_entry "" Token.EOF
    ∷ keyword_entry "]" Token.RightBracket
    ∷ keyword_entry "()" Token.Unit
    ∷ keyword_entry "" Token.EOF
    ∷ keyword_entry "" Token.EOF
    ∷ keyword_entry "" Token.EOF
    ∷ keyword_entry "&" Token.Ampersand
    ∷ keyword_entry "&=" Token.AndAssign
    ∷ keyword_entry "" Token.EOF
    ∷ keyword_entry "" Token.EOF
    ∷ keyword_entry "" Token.EOF
    ∷ keyword_entry "%" Token.Modulo
    ∷ keyword_entry "%=" Token.ModuloAssign
    ∷ keyword_entry "" Token.EOF
    ∷ keyword_entry "" Token.EOF
    ∷ keyword_entry "" Token.EOF
    ∷ keyword_entry "!" Token.Bang
    ∷ keyword_entry "!=" Token.NotEqualsTo
    ∷ keyword_entry "!in" Token.NotIn
    ∷ keyword_entry "" Token.EOF
    ∷ keyword_entry "" Token.EOF
    ∷ keyword_entry "[" Token.LeftBracket
    ∷ keyword_entry "if" Token.If
    ∷ keyword_entry "" Token.EOF
    ∷ keyword_entry "" Token.EOF
    ∷ keyword_entry "" Token.EOF
    ∷ keyword_entry "," Token.Comma
    ∷ keyword_entry "do" Token.Do
    ∷ keyword_entry "" Token.EOF
    ∷ keyword_entry "" Token.EOF
    ∷ keyword_entry "" Token.EOF
    ∷ keyword_entry "" Token.EOF
    ∷ keyword_entry "as" Token.As
    ∷ keyword_entry "" Token.EOF
    ∷ keyword_entry "" Token.EOF
    ∷ keyword_entry "" Token.EOF
    ∷ keyword_entry "" Token.EOF
    ∷ keyword_entry "?[" Token.QuestionBracket
    ∷ keyword_entry "" Token.EOF
    ∷ keyword_entry "" Token.EOF
    ∷ keyword_entry "" Token.EOF
    ∷ keyword_entry "" Token.EOF
    ∷ keyword_entry "??" Token.DoubleQuestion
    ∷ keyword_entry "" Token.EOF
    ∷ keyword_entry "" Token.EOF
    ∷ keyword_entry "" Token.EOF
    ∷ keyword_entry "" Token.EOF
    ∷ keyword_entry "&&" Token.And
    ∷ keyword_entry "" Token.EOF
    ∷ keyword_entry "" Token.EOF
    ∷ keyword_entry "" Token.EOF
    ∷ keyword_entry "" Token.EOF
    ∷ keyword_entry "#{" Token.MapStart
    ∷ []

-- a place that lists nothing
abbrev pub blank : KeywordEntry
blank = keyword_entry "" Token.EOF

-- the place k; past the end, one that lists nothing
unfoldable pub entry_at : ℕ → KeywordEntry
entry_at k = get_or keywords k blank

-- the text of the first place that has the token
unfoldable pub text_in : List KeywordEntry → ℕ → Text
text_in [] t = []
text_in (e ∷ es) t = pick (eqb e.token t) e.text (text_in es t)
