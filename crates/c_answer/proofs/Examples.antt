-- Worked examples of the definitions, under one theorem. Assumes nothing.
use Rattle.lex_error.specs.declared.LexError.TheVariants.{NoLiteralRoom}
use Rattle.std.specs.Prelude.{Err, Ok}
use mathlib.Core.Path.{◌≡◌, refl}
use Rattle.position.specs.Place.{none, start, given, line_number, column_number}
use Rattle.c_answer.specs.Packed.{packed, refusal_as_number, written_as_number}

pub record Worked : Type 0 where
  pub no_place : packed none ≡ 0
  pub a_start : packed start ≡ 65536
  pub a_place : packed (given 3 7) ≡ 196615
  pub a_length : written_as_number (Ok 4) ≡ 4
  pub no_room : written_as_number (Err NoLiteralRoom) ≡ 38654705664

pub worked : Worked
unfolding none start given line_number column_number packed refusal_as_number written_as_number
worked = record {
  no_place = refl;
  a_start = refl;
  a_place = refl;
  a_length = refl;
  no_room = refl;
}
