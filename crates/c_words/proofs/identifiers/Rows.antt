-- The row that the export writes, from what its calls tell. Assumes nothing.
use Prim.Native.Nat.{ℕ}
use mathlib.Core.List.{List}
use mathlib.Core.Path.{◌≡◌, refl}
use lib.ListN.{length}
use Rattle.position.specs.Place.{given}
use Rattle.position.specs.declared.Position.{Position}
use Rattle.identifier.specs.Identifiers.{identifier_of}
use Rattle.identifier.specs.Told.{told}
use Rattle.identifier.specs.Answer.{Identified}
use Rattle.c_words.specs.IdentifierRow.{identifier_numbers, identifier_row}

module _ (t : List ℕ) (at l c : ℕ) (book : List ℕ) where
  pub row_long : length (identifier_row t at l c book) ≡ 8
  unfolding identifier_row
  row_long = refl

  pub row_is : {p : Position} {s : Identified} {r : List ℕ} → p ≡ given l c → s ≡ identifier_of t at p book → r ≡ identifier_numbers (told s) → r ≡ identifier_row t at l c book
  unfolding identifier_row
  row_is e f g = rw (g, f, e)
