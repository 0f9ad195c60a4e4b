-- Worked examples of the numbers and of the rows, under one theorem. Assumes nothing.
use Rattle.lex_error.specs.declared.LexError.TheVariants.{BadSum}
use Rattle.std.specs.Prelude.{Err, None, Some}
use mathlib.Core.Path.{◌≡◌, refl}
use Rattle.position.specs.Place.{none, line_number, column_number}
use Rattle.places.specs.Told.{told}
use Rattle.c_answer.specs.Packed.{packed, refusal_as_number}
use Rattle.c_places.specs.PlaceNumbers.{placed_as_number, coordinate_as_number}

pub record Worked : Type 0 where
  pub no_sum : placed_as_number (Err BadSum) ≡ 64424509440
  pub a_column : coordinate_as_number (Some 7) ≡ 7
  pub no_column : coordinate_as_number None ≡ 4294967296

pub worked : Worked
unfolding none line_number column_number packed refusal_as_number told placed_as_number coordinate_as_number
worked = record { no_sum = refl; a_column = refl; no_column = refl }
