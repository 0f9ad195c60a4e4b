-- The door of a run, for each way out; and what is known of what was let in. Assumes nothing.
use Prim.Native.Nat.{ℕ, ◌≤◌, ◌<◌}
use mathlib.Core.Bool.{true}
use mathlib.Core.List.{List}
use mathlib.Core.Path.{◌≡◌, refl}
use lib.ListN.{length}
use Rattle.std.specs.Prelude.{Ok, Err}
use Rattle.lex_error.specs.declared.LexError.{LexError}
use Rattle.lex_error.specs.declared.LexError.TheVariants.{TextTooLong}
use Rattle.lex_error.specs.Numbers.{Asked, no_refusal, asked_then}
use Rattle.utf8.specs.Table.{well}
use Rattle.book.specs.Book.{good, check_of}
use Rattle.book.proofs.Checks.{check_good}
use Rattle.door.specs.Door.{text_of}
use Rattle.door.specs.RunDoor.{refuses_of}
use Rattle.door.proofs.Doors.{text_long, text_admitted}

module _ (t book : List ℕ) where
  pub text_first : {e : LexError} → text_of t ≡ Err e → refuses_of t book ≡ Err e
  unfolding refuses_of
  text_first n = rw n

  pub by_the_book : text_of t ≡ no_refusal → refuses_of t book ≡ check_of book
  unfolding refuses_of
  by_the_book z = rw z

  pub too_long : 16777216 < length t → refuses_of t book ≡ Err TextTooLong
  too_long h = text_first (text_long t h)

  -- what is let in: a short script, well formed, and a good book
  pub record Admitted : Type 0 where
    pub short : length t ≤ 16777216
    pub formed : well t ≡ true
    pub fair : good book ≡ true

  pub admitted : refuses_of t book ≡ no_refusal → Admitted
  unfolding refuses_of
  admitted e = go (text_of t) refl e
    where
      go : (a : Asked) → text_of t ≡ a → asked_then a (check_of book) ≡ no_refusal → Admitted
      go (Err f) p z = cc
      go (Ok u) p z = let text = text_admitted t p in record { short = text.short; formed = text.formed; fair = check_good book (check_of book) refl z }
