-- The numbers of a place are what the Rust's Options give with `unwrap_or(0)`; a new place is the one given. Assumes nothing.
use Rattle.lex_error.specs.declared.LexError.TheVariants.{BadArgument}
use Rattle.std.specs.Prelude.{Err, None, Ok, Some}
use Prim.Native.Nat.{ℕ}
use mathlib.Core.Bool.{false}
use mathlib.Core.Path.{◌≡◌, refl, sym, ap}
use lib.Dec.{eqb}
use borrow.Author.Tests.{eqb-true, eq-eqb, ne_eqb}
use Rattle.basis.proofs.Cases.{pick_cases}
use Rattle.position.specs.Place.{none, given, is_none, line_number, column_number}
use Rattle.position.specs.declared.Position.{Position}
use Rattle.position.proofs.Moves.{only_none}
use Rattle.places.specs.Coordinates.{new_of, numbered, line_option, position_option, unwrap_or}
use Rattle.places.specs.Answer.{Coordinate}

module _ (p : Position) where
  pub line_number_lem : unwrap_or (line_option p) 0 ≡ line_number p
  unfolding line_option numbered unwrap_or line_number none
  line_number_lem =
      pick_cases (λ (x : Coordinate). unwrap_or x 0 ≡ line_number p) (is_none p) None (Some (line_number p))
      (λ h. sym (ap line_number (only_none p h)))
      (λ h. refl)

  pub column_number_lem : unwrap_or (position_option p) 0 ≡ column_number p
  unfolding position_option numbered unwrap_or column_number none
  column_number_lem =
      pick_cases (λ (x : Coordinate). unwrap_or x 0 ≡ column_number p) (eqb (column_number p) 0) None (numbered p (column_number p))
      (λ z. sym (eqb-true (column_number p) 0 z))
      (λ z. pick_cases (λ (x : Coordinate). unwrap_or x 0 ≡ column_number p) (is_none p) None (Some (column_number p))
      (λ h. sym (ap column_number (only_none p h)))
      (λ h. refl))

  -- a place that is not NONE has a line
  pub line_some : is_none p ≡ false → line_option p ≡ Some (line_number p)
  unfolding line_option numbered
  line_some h = rw h

-- a new place is the one given, and line 0 is refused
module _ (l c : ℕ) where
  pub new_given : (l ≡ 0 → ⊥) → new_of l c ≡ Ok (given l c)
  unfolding new_of
  new_given h = rw (ne_eqb l 0 h)

  pub new_refused : l ≡ 0 → new_of l c ≡ Err BadArgument
  unfolding new_of
  new_refused h = rw (eq-eqb l 0 h)
