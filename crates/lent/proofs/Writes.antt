-- A text written at the front of lent memory, for each way out: it has room, or it has none. Assumes nothing.
use Rattle.lex_error.specs.declared.LexError.TheVariants.{NoLiteralRoom}
use Rattle.std.specs.Prelude.{Err, Ok}
use Prim.Native.Nat.{ℕ, ◌≤◌, ◌<◌}
use native.Mathlib.Omega.{arith}
use native.Mathlib.Nat.{zero-add}
use mathlib.Core.List.{List}
use mathlib.Core.Path.{◌≡◌, sym, ap, ◌∙◌}
use lib.ListN.{length}
use borrow.Author.Tests.{lt-ltb, le-ltb}
use Rattle.basis.specs.Store.{stored, after, over}
use Rattle.basis.proofs.Stores.{stored_whole, after_whole, sets_front}
use Rattle.lent.specs.Written.{written_of, left_of}

module _ (text memory : List ℕ) where
  module _ (h : length memory < length text) where
    pub refused : written_of text memory ≡ Err NoLiteralRoom
    unfolding written_of
    refused = rw (lt-ltb _ _ h)

    pub untouched : left_of text memory ≡ memory
    unfolding left_of
    untouched = rw (lt-ltb _ _ h)

  module _ (h : length text ≤ length memory) where
    pub done : written_of text memory ≡ Ok (length text)
    unfolding written_of
    done = rw (le-ltb _ _ h)

    pub written : left_of text memory ≡ over text memory
    unfolding left_of
    written = rw (le-ltb _ _ h)

    -- as a copy to the front tells it
    pub copied : (r : ℕ) → r ≡ after memory 0 text → Ok r ≡ written_of text memory
    copied r e = ap Ok (e ∙ after_whole memory 0 text (omega arith) ∙ zero-add (length text)) ∙ sym done

    pub kept : (l : List ℕ) → l ≡ stored memory 0 text → l ≡ left_of text memory
    kept l e = e ∙ stored_whole memory 0 text (omega arith) ∙ sets_front memory text h ∙ sym written
