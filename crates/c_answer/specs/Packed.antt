-- Answers as numbers, for the C names: a place or a length in the lower 32 bits, and the number of a refusal above them.
use Rattle.lex_error.specs.Numbers.{number_of}
use Rattle.std.specs.Prelude.{ℕ, ◌+◌, ◌*◌, Err, Ok}
use Rattle.position.specs.Place.{line_number, column_number}
use Rattle.position.specs.declared.Position.{Position}
use Rattle.lent.specs.Answer.{Written}

-- a place: its line and its column, sixteen bits each, 0 where the place has none
unfoldable pub packed : Position → ℕ
packed p = line_number p * 65536 + column_number p

-- a refusal, by its number
unfoldable pub refusal_as_number : ℕ → ℕ
refusal_as_number n = n * 4294967296

-- the length written, or the refusal
unfoldable pub written_as_number : Written → ℕ
written_as_number (Ok n) = n
written_as_number (Err e) = refusal_as_number (number_of e)
