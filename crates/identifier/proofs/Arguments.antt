-- What is known of arguments that are let in. Assumes nothing.
use Prim.Native.Nat.{ℕ}
use mathlib.Core.Bool.{Bool, true, false}
use mathlib.Core.List.{List}
use mathlib.Core.Path.{◌≡◌, refl}
use lib.Dec.{leb}
use lib.ListN.{length}
use Rattle.std.specs.Prelude.{Ok, Err}
use Rattle.lex_error.specs.declared.LexError.TheVariants.{BadArgument}
use Rattle.lex_error.specs.Numbers.{Asked, no_refusal, asked_then}
use Rattle.basis.specs.Pick.{pick, either, isnt}
use Rattle.position.specs.Place.{on_line}
use Rattle.position.specs.declared.Position.{Position}
use Rattle.door.specs.Door.{door_of}
use Rattle.book.specs.Book.{good, check_of}
use Rattle.book.proofs.Checks.{check_good}
use Rattle.identifier.specs.Identifiers.{identifier_argument}

-- who is let in has a good book
pub good_book : (t : List ℕ) (at : ℕ) (p : Position) (book : List ℕ) → identifier_argument t at p book ≡ no_refusal → good book ≡ true
unfolding identifier_argument
good_book t at p book e = go (door_of t at) (either (isnt (on_line p)) (leb (length t) at)) e
  where
    go : (a : Asked) (b : Bool) → ◌≡◌ {A = Asked} (asked_then a (pick b (Err BadArgument) (check_of book))) no_refusal → good book ≡ true
    go (Ok u) true z = cc
    go (Ok u) false z = check_good book (check_of book) refl z
    go (Err f) b z = cc
