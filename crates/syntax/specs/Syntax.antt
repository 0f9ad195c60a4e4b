-- `literal_syntax` of `types/token.rs`. Document 01: "`literal_syntax` of a listed token looks up as that token; UnaryPlus and UnaryMinus look up as Plus and Minus. For any other token, or a number naming none, the text is empty where the Rust panics."
use Rattle.std.specs.Prelude.{ℕ, eqb}
use Rattle.basis.specs.Types.{Text}
use Rattle.basis.specs.Pick.{pick}
use Rattle.token.specs.Tokens as Token
use Rattle.token.specs.Keywords.{keywords, text_in}

-- the token that a token is written as: the unary signs are written as the binary ones
unfoldable pub written_as : ℕ → ℕ
written_as t = pick (eqb t Token.UnaryPlus) Token.Plus (pick (eqb t Token.UnaryMinus) Token.Minus t)

-- the text of a token; empty for a token that no place lists, and for a number that names none
unfoldable pub literal_syntax_of : ℕ → Text
literal_syntax_of t = text_in keywords (written_as t)
