-- What a run has left when it is over, in the words of its contract. Assumes nothing.
use Rattle.lex_error.specs.Numbers.{no_refusal}
use Rattle.lex_error.specs.declared.LexError.{LexError}
use Rattle.lex_error.specs.declared.LexError.TheVariants.{TextTooLong}
use Rattle.std.specs.Prelude.{Err}
use Prim.Native.Nat.{ℕ, zero, suc, ◌≤◌, ◌<◌}
use native.Mathlib.Omega.{arith}
use native.Mathlib.Nat.{zero-add}
use mathlib.Core.List.{List}
use mathlib.Core.Path.{◌≡◌, refl, sym, ap, ◌∙◌}
use lib.ListN.{length, get_or, replicate}
use borrow.Author.Tests.{eq-eqb, ne_eqb}
use Rattle.basis.specs.Store.{over}
use Rattle.basis.proofs.Stores.{sets_front}
use Rattle.position.specs.Place.{start}
use Rattle.fault.specs.Faults.{fault}
use Rattle.door.specs.RunDoor.{refuses_of}
use Rattle.door.proofs.run.Doors.{too_long}
use Rattle.reading.specs.Reading.{Left, entries, literal_bytes, nothing_more}
use Rattle.reading.specs.CutRun.{cut_run}
use Rattle.reading.specs.declared.Bounds.{Bounds}
use Rattle.script.specs.Rules.{Rules}
use Rattle.entry.specs.Entries.{laid_out}
use Rattle.entry.specs.declared.Entry.{Entry}
use Rattle.reading.specs.Endings.{Ending}
use Rattle.reading.proofs.Fits.{cut_fits}
use Rattle.script.specs.Script.{script_of}
use Rattle.script.specs.States.{begun_at, begun}
use Rattle.turn.proofs.Makes.{Stands, left}
use Rattle.run.specs.Run.{run_reading, run_of, ran_of, called, holds}
use Rattle.run.proofs.Finishes.{Finished, finish, Running}

-- ---- before the first turn
zeros : (n i : ℕ) → ◌≡◌ {A = ℕ} (get_or (replicate n 0) i 0) 0
zeros zero i = refl
zeros (suc n) zero = refl
zeros (suc n) (suc i) = zeros n i

module _ (t : List ℕ) (b : Bounds) where
  pub begun_stands : Stands t b begun 0 0
  unfolding begun_at
  begun_stands = record { fine = record { deep = omega arith; few = λ i. rw (zeros 16 i) (omega arith); short = omega arith }; within = omega arith; room = omega arith; few = omega arith; short = omega arith; free = omega arith }

-- ---- for any way to lay an entry out
module _ (index : ℕ → ℕ) (laid : Entry → List ℕ) (rules : Rules) (t book : List ℕ) (b : Bounds) (es ls : List ℕ) where
  pub run_begun : length ls ≡ b.literals → Running index laid rules t book b es ls begun begun 0 0 es ls
  run_begun h = record { stands = begun_stands t b; room = h; entries = refl; same = refl }

  -- what is left of the whole script
  abbrev whole : Left
  whole = cut_run b 0 0 (script_of rules t book)

  abbrev es_left : List Entry
  es_left = entries whole.tokens

  abbrev ls_left : List ℕ
  ls_left = literal_bytes whole.tokens

  module _ (first : index 0 ≡ 0) (lent : length ls ≡ b.literals) (rooms : length es_left ≤ b.entries → length (laid_out laid es_left) ≤ length es) where
    finish-is :
        finish index laid es ls 0 0 (left rules t book b begun 0 0)
        ≡ record { ending = whole.ending; listed = length es_left; used = length ls_left; entries = over (laid_out laid es_left) es; literals = over ls_left ls }
    unfolding finish script_of
    finish-is =
        let f = cut_fits b 0 0 (script_of rules t book) (omega arith) (omega arith) in
        rw (
          first,
          zero-add (length es_left),
          zero-add (length ls_left),
          sets_front es (laid_out laid es_left) (rooms (omega (arith, f.entries))),
          sets_front ls ls_left (omega (arith, f.literals)),
        )

    pub done : {e : Ending} {n used : ℕ} {es' ls' : List ℕ}
        → record { ending = e; listed = n; used = used; entries = es'; literals = ls' } ≡ finish index laid es ls 0 0 (left rules t book b begun 0 0)
        → called (record { ending = e; listed = n; used = used }) ls' es' ≡ holds laid whole ls es
    done h = ap (λ (x : Finished). called (record { ending = x.ending; listed = x.listed; used = x.used }) x.literals x.entries) (h ∙ finish-is)

-- ---- the whole run
module _ (rules : Rules) (b : Bounds) (t book : List ℕ) where
  pub run_read : refuses_of t book ≡ no_refusal → run_of rules b t book ≡ cut_run b 0 0 (script_of rules t book)
  unfolding run_of run_reading
  run_read z = rw z

  pub run_refused : {e : LexError} → refuses_of t book ≡ Err e → run_of rules b t book ≡ nothing_more (Err (fault e start))
  unfolding run_of run_reading cut_run
  run_refused n = rw n

  -- a script that is too long is 2 at START, whatever it holds: D76 (2) of docs/DECISIONS.md, whose script no program of the gate can hold
  pub too_long_run : 16777216 < length t → run_of rules b t book ≡ nothing_more (Err (fault TextTooLong start))
  too_long_run h = run_refused (too_long t book h)

  -- what is refused leaves the memory as it was
  pub refused_call : {e : LexError} → refuses_of t book ≡ Err e → (laid : Entry → List ℕ) (ls es : List ℕ) → called (ran_of (nothing_more (Err (fault e start)))) ls es ≡ holds laid (run_of rules b t book) ls es
  unfolding laid_out entries literal_bytes
  refused_call n laid ls es = rw (run_refused n)
