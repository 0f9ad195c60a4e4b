-- Document 01's number and values for each case of a place that may be refused.
use Rattle.std.specs.Prelude.{ℕ, Err, Ok}
use Rattle.lex_error.specs.Numbers.{number_of}
use Rattle.position.specs.Place.{none}
use Rattle.position.specs.declared.Position.{Position}
use Rattle.places.specs.Answer.{Placed}

-- what is told: the refusal's number, 0 for none, and the place
pub record Told : Type 0 where
  pub number : ℕ
  pub place : Position

-- the values of each case; a refusal has no place
unfoldable pub told : Placed → Told
told (Ok p) = record { number = 0; place = p }
told (Err e) = record { number = number_of e; place = none }
