-- What a move answers of a place on a line, and of one on line 0. Assumes nothing.
use Rattle.lex_error.specs.declared.LexError.TheVariants.{BadArgument}
use Rattle.std.specs.Prelude.{Err, Ok}
use mathlib.Core.Bool.{Bool, true, false}
use mathlib.Core.Path.{◌≡◌, refl}
use lib.Dec.{eqb}
use borrow.Author.Tests.{eq-eqb, ne_eqb}
use Rattle.basis.specs.Pick.{pick}
use Rattle.position.specs.Place.{on_line, column_number, advanced, lined, rewound}
use Rattle.position.specs.declared.Position.{Position}
use Rattle.places.specs.Answer.{Placed}
use Rattle.places.specs.Moves.{moved, advance_of, new_line_of, rewind_of}

pick_same : (a : Bool) (x : Placed) → pick a x x ≡ x
pick_same true x = refl
pick_same false x = refl

module _ (p : Position) where
  module _ (h : on_line p ≡ true) where
    pub advances : advance_of p ≡ Ok (advanced p)
    unfolding advance_of moved
    advances = rw h

    pub starts_line_lem : new_line_of p ≡ Ok (lined p)
    unfolding new_line_of moved
    starts_line_lem = rw h

    pub rewinds : (column_number p ≡ 0 → ⊥) → rewind_of p ≡ Ok (rewound p)
    unfolding rewind_of moved
    rewinds n = rw (ne_eqb (column_number p) 0 n, h)

  pub begins_refused : column_number p ≡ 0 → rewind_of p ≡ Err BadArgument
  unfolding rewind_of
  begins_refused z = rw (eq-eqb (column_number p) 0 z)

  module _ (h : on_line p ≡ false) where
    pub advance_refused : advance_of p ≡ Err BadArgument
    unfolding advance_of moved
    advance_refused = rw h

    pub new_line_refused : new_line_of p ≡ Err BadArgument
    unfolding new_line_of moved
    new_line_refused = rw h

    pub rewind_refused : rewind_of p ≡ Err BadArgument
    unfolding rewind_of moved
    rewind_refused = rw h (pick_same (eqb (column_number p) 0) (Err BadArgument))
