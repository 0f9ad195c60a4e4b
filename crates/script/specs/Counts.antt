-- What a run has passed, by two numbers, and behind what braces are to be counted.
use Rattle.std.specs.Prelude.{ℕ, Bool, true, false, eqb}
use Rattle.basis.specs.Pick.{both, either, isnt}
use Rattle.token.specs.Tokens as Tokens
use Rattle.script.specs.declared.Crossed.{Crossed}
use Rattle.script.specs.declared.Crossed.TheVariants.{Plain, Piece, Token}

-- a piece of text that `${` ended, or the Rust's token
abbrev pub passed_of : Bool → ℕ → Crossed
passed_of true t = Piece
passed_of false t = Token t

-- it opens or closes an interpolation, or a brace in one
unfoldable pub counts : ℕ → Crossed → Bool
counts level Plain = false
counts level Piece = true
counts level (Token t) = both (isnt (eqb level 0)) (either (eqb t Tokens.LeftBrace) (either (eqb t Tokens.MapStart) (eqb t Tokens.RightBrace)))
