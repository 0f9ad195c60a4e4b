-- Where the last tokens ended: the Rust's `record_token`. Document 01: "Moving a place on line 0 .. is 3; the Rust panics".
use Rattle.std.specs.Prelude.{ℕ, eqb, Err, Ok}
use Rattle.basis.specs.Pick.{pick, either}
use Rattle.position.specs.declared.Position.{Position}
use Rattle.places.specs.Answer.{Placed}
use Rattle.places.specs.Moves.{advance_of}
use Rattle.token.specs.Tokens.{Comment, EOF}
use Rattle.token_ends.specs.declared.TokenEnds.{TokenEnds}
use Rattle.token_ends.specs.Answer.{Recorded}

-- the last end, and the one before it
abbrev pub ends : Position → Position → Recorded
ends last previous = Ok (record { last = last; previous = previous })

-- the place behind a token is its end
abbrev pub on_placed : Position → Placed → Recorded
on_placed previous (Ok p) = ends p previous
on_placed previous (Err n) = Err n

-- a token that ends at a place: what was the last end is the one before; a comment and the end of input leave the last end alone
unfoldable pub record_token_of : TokenEnds → ℕ → Position → Recorded
record_token_of e token p = pick (either (eqb token Comment) (eqb token EOF)) (ends e.last e.last) (on_placed e.last (advance_of p))
