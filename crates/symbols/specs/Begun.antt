-- What a byte begins, by the bytes behind it, in the shape of the code. The crate's answers are those of `specs/Symbols.antt`.
use Rattle.std.specs.Prelude.{ℕ, Bool, eqb, None}
use Rattle.basis.specs.Pick.{pick}
use Rattle.token.specs.Tokens as Token
use Rattle.symbols.specs.Found.{Longest, symbol_as}

-- one character, or two where the second is the one given
unfoldable pub followed_of : ℕ → ℕ → ℕ → ℕ → Longest
followed_of b one second two = pick (eqb b second) (symbol_as two 2) (symbol_as one 1)

-- one character, or two where the second is `=` or the one given
unfoldable pub assigned_of : ℕ → ℕ → ℕ → ℕ → ℕ → Longest
assigned_of b one assign second two = pick (eqb b 0x3D) (symbol_as assign 2) (followed_of b one second two)

-- one character, or twice that, each alone or before `=`
unfoldable pub doubled_of : ℕ → ℕ → ℕ → ℕ → ℕ → ℕ → ℕ → Longest
doubled_of b c first one assign two three = pick (eqb b first) (pick (eqb c 0x3D) (symbol_as three 3) (symbol_as two 2)) (followed_of b one 0x3D assign)

-- `*`, `*=`, `**`, `**=`
abbrev pub stars_of : ℕ → ℕ → Longest
stars_of b c = doubled_of b c 0x2A Token.Multiply Token.MultiplyAssign Token.PowerOf Token.PowerOfAssign

-- `<`, `<=`, `<<`, `<<=`
abbrev pub less_of : ℕ → ℕ → Longest
less_of b c = doubled_of b c 0x3C Token.LessThan Token.LessThanEqualsTo Token.LeftShift Token.LeftShiftAssign

-- `>`, `>=`, `>>`, `>>=`
abbrev pub greater_of : ℕ → ℕ → Longest
greater_of b c = doubled_of b c 0x3E Token.GreaterThan Token.GreaterThanEqualsTo Token.RightShift Token.RightShiftAssign

-- `.`, `..`, `..=`
unfoldable pub dots_of : ℕ → ℕ → Longest
dots_of b c = pick (eqb b 0x2E) (pick (eqb c 0x3D) (symbol_as Token.InclusiveRange 3) (symbol_as Token.ExclusiveRange 2)) (symbol_as Token.Period 1)

-- `!`, `!=`, and `!in` unless an identifier goes on behind it
unfoldable pub bang_of : ℕ → ℕ → Bool → Longest
bang_of b c on =
    pick (eqb b 0x69)
    (pick (eqb c 0x6E) (pick on (symbol_as Token.Bang 1) (symbol_as Token.NotIn 3)) (symbol_as Token.Bang 1))
    (followed_of b Token.Bang 0x3D Token.NotEqualsTo)

-- `?.`, `?[`, `??`
unfoldable pub question_of : ℕ → Longest
question_of b =
    pick (eqb b 0x2E) (symbol_as Token.Elvis 2)
    (pick (eqb b 0x5B) (symbol_as Token.QuestionBracket 2) (pick (eqb b 0x3F) (symbol_as Token.DoubleQuestion 2) None))

-- `#{`
unfoldable pub map_start_of : ℕ → Longest
map_start_of b = pick (eqb b 0x7B) (symbol_as Token.MapStart 2) None
