-- What is answered where a token's end is recorded.
use Rattle.std.specs.Prelude.{Result}
use Rattle.lex_error.specs.declared.LexError.{LexError}
use Rattle.token_ends.specs.declared.TokenEnds.{TokenEnds}

-- the ends then, or the refusal
abbrev pub Recorded : Type 0
Recorded = Result TokenEnds LexError
