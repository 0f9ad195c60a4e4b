-- Document 01's number and values for each case of what is recorded.
use Rattle.std.specs.Prelude.{ℕ, Err, Ok}
use Rattle.lex_error.specs.Numbers.{number_of}
use Rattle.position.specs.Place.{none}
use Rattle.position.specs.declared.Position.{Position}
use Rattle.token_ends.specs.Answer.{Recorded}

-- what is told: the refusal's number, 0 for none; the last end, and the one before it
pub record Told : Type 0 where
  pub number : ℕ
  pub last : Position
  pub previous : Position

-- the values of each case; a refusal has no ends
unfoldable pub told : Recorded → Told
told (Ok e) = record { number = 0; last = e.last; previous = e.previous }
told (Err e) = record { number = number_of e; last = none; previous = none }
