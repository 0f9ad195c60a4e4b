-- The export, for each way out: too short an answer, a refusal, a literal. Assumes nothing.
use Prim.Native.Nat.{ℕ, ◌≤◌, ◌<◌}
use native.Mathlib.Omega.{arith}
use mathlib.Core.Bool.{true, false}
use mathlib.Core.List.{List}
use mathlib.Core.Path.{◌≡◌, ◌∙◌}
use lib.ListN.{length}
use borrow.Author.Tests.{lt-ltb, le-ltb}
use Rattle.basis.specs.Store.{stored}
use Rattle.basis.proofs.Stores.{stored_whole, sets_front}
use Rattle.std.specs.Prelude.{Err}
use Rattle.lex_error.specs.declared.LexError.{LexError}
use Rattle.lex_error.specs.Numbers.{number_of, no_refusal}
use Rattle.lent.specs.Answer.{Written}
use Rattle.lent.specs.Written.{written_number}
use Rattle.numbers.specs.Spell.{spell}
use Rattle.numbers.proofs.Rows.{length_spell}
use Rattle.raw_writer.specs.Writer.{raw_write_of, raw_left_of}
use Rattle.door.specs.Door.{text_of}
use Rattle.stew.specs.WriteAnswer.{written_length, write_too_short, short_write_number, write_returned, out_of, write_answer}

module _ (body : List ℕ) where
  pub no_fault : text_of body ≡ no_refusal → 9 ≡ short_write_number body
  unfolding short_write_number
  no_fault z = rw z

  pub own_fault : {e : LexError} → text_of body ≡ Err e → number_of e ≡ short_write_number body
  unfolding short_write_number
  own_fault z = rw z

module _ (body out answer : List ℕ) where
  module _ (h : length answer < 4) where
    is_short : write_too_short answer ≡ true
    unfolding write_too_short
    is_short = lt-ltb (length answer) 4 h

    pub short_returned : {r : ℕ} → r ≡ short_write_number body → r ≡ write_returned body out answer
    unfolding write_returned
    short_returned e = rw is_short e

    pub short_out : out ≡ out_of body out answer
    unfolding out_of
    short_out = rw is_short

    pub short_answer : answer ≡ write_answer body out answer
    unfolding write_answer
    short_answer = rw is_short

  module _ (h : 4 ≤ length answer) where
    not_short : write_too_short answer ≡ false
    unfolding write_too_short
    not_short = le-ltb (length answer) 4 h

    pub left_out : {l : List ℕ} → l ≡ raw_left_of body out → l ≡ out_of body out answer
    unfolding out_of
    left_out e = rw not_short e

    module _ {w : Written} (e : w ≡ raw_write_of body out) where
      pub number_returned : {r : ℕ} → r ≡ written_number w → r ≡ write_returned body out answer
      unfolding write_returned
      number_returned q = rw (not_short, ← e) q

      pub length_answered : (n : ℕ) {l : List ℕ} → l ≡ stored answer 0 (spell 4 n) → n ≡ written_length w → l ≡ write_answer body out answer
      unfolding write_answer
      length_answered n f q =
          let s = length_spell 4 n in
          rw (not_short, ← e, ← q) (f ∙ stored_whole answer 0 (spell 4 n) (omega arith) ∙ sets_front answer (spell 4 n) (omega arith))
