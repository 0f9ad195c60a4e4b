-- The reading of any script under any book is fair: in it only a test of the limit is 7, and no rule of its own is 7, 9 or 10. Assumes nothing.
use Prim.Native.Nat.{ℕ, ◌≤◌}
use native.Mathlib.Omega.{arith}
use mathlib.Core.Bool.{Bool, true, false}
use mathlib.Core.List.{List}
use mathlib.Core.Logic.{◌⊎◌, inl, inr}
use mathlib.Core.Path.{◌≡◌, refl, subst}
use lib.Dec.{ltb}
use lib.ListN.{length}
use Rattle.std.specs.Prelude.{Ok, Err}
use Rattle.lex_error.specs.declared.LexError.{LexError}
use Rattle.lex_error.specs.declared.LexError.TheVariants.{NotUtf8, TextTooLong, BadBook}
use Rattle.lex_error.specs.Numbers.{Asked, number_of, no_refusal, asked_then, on_asked}
use Rattle.basis.specs.Pick.{pick}
use Rattle.position.specs.Place.{start}
use Rattle.utf8.specs.Table.{well}
use Rattle.fault.specs.Faults.{fault, Own}
use Rattle.book.specs.Book.{good, check_of}
use Rattle.reading.specs.Reading.{halts}
use Rattle.reading.specs.Limits.{Fair}
use Rattle.script.specs.Script.{script_of}
use Rattle.script.specs.States.{begun}
use Rattle.script.proofs.Fair.{script_fair}
use Rattle.door.specs.Door.{text_of}
use Rattle.door.specs.RunDoor.{refuses_of}
use Rattle.script.specs.Rules.{Rules}
use Rattle.run.specs.Run.{run_reading}

-- what is refused at the door is 1, 2 or 14
abbrev pub Early : LexError → Type 0
Early e = (number_of e ≤ 2) ⊎ (number_of e ≡ 14)

pub door_early : (t book : List ℕ) {e : LexError} → refuses_of t book ≡ Err e → Early e
unfolding refuses_of check_of text_of
door_early t book {e} = go (ltb 16777216 (length t)) (well t) (good book)
  where
    go : (a b c : Bool) → ◌≡◌ {A = Asked} (asked_then (pick a (Err TextTooLong) (pick b no_refusal (Err NotUtf8))) (pick c no_refusal (Err BadBook))) (Err e) → Early e
    go true b c q = let p : TextTooLong ≡ e = cc in subst Early p (inl (omega arith))
    go false false c q = let p : NotUtf8 ≡ e = cc in subst Early p (inl (omega arith))
    go false true true q = cc
    go false true false q = let p : BadBook ≡ e = cc in subst Early p (inr refl)

early_own : (e : LexError) → Early e → Own (fault e start)
early_own e (inl h) = (λ z. omega arith, λ z. omega arith, λ z. omega arith)
early_own e (inr h) = (λ z. omega arith, λ z. omega arith, λ z. omega arith)

pub reading_fair : (rules : Rules) (t book : List ℕ) → Fair (run_reading rules t book)
unfolding run_reading script_of
reading_fair rules t book = by (refuses_of t book) refl
  where
    by : (x : Asked) → refuses_of t book ≡ x → Fair (on_asked x (script_of rules t book) (λ e. halts (fault e start)))
    by (Ok u) q = script_fair rules t book begun
    by (Err e) q = early_own e (door_early t book q)
