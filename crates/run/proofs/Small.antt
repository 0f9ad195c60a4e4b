-- The numbers of what a run lists, and of how it ends, are u32. Assumes nothing.
use Rattle.lex_error.specs.Numbers.{Asked, no_refusal}
use Rattle.std.specs.Prelude.{Err, Ok}
use Prim.Native.Nat.{ℕ, ◌*◌, ◌≤◌}
use native.Mathlib.Omega.{arith}
use mathlib.Core.Bool.{Bool, true, false}
use mathlib.Core.List.{List}
use mathlib.Core.Logic.{inl, inr}
use mathlib.Core.Path.{◌≡◌, refl}
use lib.Dec.{eqb}
use lib.ListN.{length}
use borrow.Author.Tests.{eqb-true, eqb-false}
use Rattle.position.proofs.Small.{start_small}
use Rattle.fault.proofs.Small.{fault_tells}
use Rattle.reading.specs.Reading.{Left, entries}
use Rattle.reading.specs.CutRun.{cut_run}
use Rattle.reading.specs.declared.Bounds.{Bounds}
use Rattle.script.specs.Rules.{Rules}
use Rattle.entry.specs.Entries.{numbers_of, laid_out, U32s}
use Rattle.reading.specs.Limits.{Fair}
use Rattle.reading.specs.Endings.{Ending}
use Rattle.reading.proofs.Small.{Readable, EndingSmall, cut_fits_u32}
use Rattle.script.specs.Script.{script_of}
use Rattle.script.specs.States.{begun_at, begun}
use Rattle.script.proofs.Fair.{script_fair}
use Rattle.script.proofs.Small.{script_small}
use Rattle.door.specs.RunDoor.{refuses_of}
use Rattle.door.proofs.run.Doors.{admitted}
use Rattle.run.specs.Run.{run_of}
use Rattle.run.proofs.Runs.{run_read, run_refused}
use Rattle.run.proofs.Short.{run_short_lem}

-- in a longer script too
longer : (n m : ℕ) → n ≤ m → (e : Ending) → EndingSmall n e → EndingSmall m e
longer n m h (Ok p) k = k
longer n m h (Err f) k = record { number = k.number; place = k.place; at = omega (arith, k.at); len = omega (arith, k.len) }

script_readable : (rules : Rules) (t book : List ℕ) → Readable (length t) (script_of rules t book)
unfolding script_of begun_at
script_readable rules t book = script_small rules t book begun start_small (omega arith)

script_is_fair : (rules : Rules) (t book : List ℕ) → Fair (script_of rules t book)
unfolding script_of
script_is_fair rules t book = script_fair rules t book begun

abbrev Fitting : Left → Type 0
Fitting l = U32s (laid_out numbers_of (entries l.tokens)) × EndingSmall 16777216 l.ending

pub run_fits_u32 : (rules : Rules) (b : Bounds) (t book : List ℕ) → Fitting (run_of rules b t book)
unfolding laid_out entries
run_fits_u32 rules b t book = by (refuses_of t book) refl
  where
    read : refuses_of t book ≡ no_refusal → Fitting (cut_run b 0 0 (script_of rules t book))
    read z =
        let short = (admitted t book z).short in
        let bytes = rw (run_read rules b t book z) at (run_short_lem rules b t book).literals in
        let fit = cut_fits_u32 (length t) b (4 * length t) (omega arith) (omega arith) 0 0 (script_of rules t book) (script_is_fair rules t book) (script_readable rules t book) bytes in
        (fit.0, longer (length t) 16777216 short (cut_run b 0 0 (script_of rules t book)).ending fit.1)

    by : (x : Asked) → refuses_of t book ≡ x → Fitting (run_of rules b t book)
    by (Ok u) z = rw (run_read rules b t book z) (read z)
    by (Err e) q = rw (run_refused rules b t book q) (tt, fault_tells 16777216 e start_small)
