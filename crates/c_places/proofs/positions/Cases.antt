-- What each case of an answer tells as a number; a place that a case does not have is NONE, which is 0. Assumes nothing.
use Rattle.std.specs.Prelude.{Err, Ok}
use Prim.Native.Nat.{ℕ}
use native.Mathlib.Omega.{arith}
use mathlib.Core.Path.{◌≡◌}
use Rattle.lex_error.specs.declared.LexError.{LexError}
use Rattle.lex_error.specs.Numbers.{number_of}
use Rattle.c_answer.specs.Packed.{packed, refusal_as_number}
use Rattle.c_answer.proofs.Examples.{worked}
use Rattle.position.specs.declared.Position.{Position}
use Rattle.places.specs.Told.{told}
use Rattle.c_places.specs.PlaceNumbers.{placed_as_number}

pub at_number : (p : Position) → packed p ≡ placed_as_number (Ok p)
unfolding refusal_as_number told placed_as_number
at_number p = omega arith

pub refused_number : (e : LexError) → refusal_as_number (number_of e) ≡ placed_as_number (Err e)
unfolding told placed_as_number
refused_number e = rw worked.no_place (omega arith)
