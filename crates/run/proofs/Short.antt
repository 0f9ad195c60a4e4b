-- A run lists one entry at most for each byte of its script, and packs four literal bytes at most for each. Assumes nothing.
use Rattle.std.specs.Prelude.{Ok, Err}
use Rattle.lex_error.specs.Numbers.{Asked}
use Prim.Native.Nat.{ℕ, zero, suc, ◌+◌, ◌*◌, ◌≤◌}
use native.Mathlib.Omega.{arith}
use mathlib.Core.Bool.{Bool, true, false}
use mathlib.Core.List.{List}
use mathlib.Core.Path.{◌≡◌, refl}
use lib.Dec.{eqb}
use lib.ListN.{length, length-append}
use borrow.Author.Tests.{eqb-true, eqb-false}
use Rattle.reading.specs.Reading.{Kept, Left, entries, literal_bytes, nothing_more, more}
use Rattle.reading.specs.declared.Bounds.{Bounds}
use Rattle.reading.specs.Endings.{Ending}
use Rattle.script.specs.Rules.{Rules}
use Rattle.script.specs.Script.{script_of}
use Rattle.script.specs.Steps.{Step, step_of}
use Rattle.script.specs.States.{begun}
use Rattle.script.specs.declared.State.{State}
use Rattle.turn.specs.Turns.{step_next, step_state, step_bytes}
use Rattle.turn.specs.declared.Next.{Next}
use Rattle.turn.specs.declared.Next.TheVariants.{On, Listed, Over}
use Rattle.turn.proofs.Cuts.{step_values}
use Rattle.turn.proofs.Makes.{Stands, left, Makes, turn_makes}
use Rattle.door.specs.RunDoor.{refuses_of}
use Rattle.door.proofs.run.Doors.{admitted}
use Rattle.run.specs.Run.{run_of}
use Rattle.run.proofs.Runs.{begun_stands, run_read, run_refused}

-- behind n entries and so many literal bytes
pub record Short (t : List ℕ) (n used : ℕ) (l : Left) : Type 0 where
  pub entries : n + length (entries l.tokens) ≤ length t
  pub literals : used + length (literal_bytes l.tokens) ≤ 4 * length t

over_short : (t : List ℕ) (n used : ℕ) (e : Ending) → n ≤ length t → used ≤ 4 * length t → Short t n used (nothing_more e)
unfolding entries literal_bytes
over_short t n used e h k = record { entries = omega arith; literals = omega arith }

more_short : (t : List ℕ) (n used : ℕ) (k : Kept) (l : Left) → Short t (n + 1) (used + length k.bytes) l → Short t n used (more k l)
unfolding entries literal_bytes
more_short t n used k l h = record { entries = omega (arith, h.entries); literals = rw (length-append k.bytes (literal_bytes l.tokens)) (omega (arith, h.literals)) }

module _ (rules : Rules) (t book : List ℕ) (b : Bounds) (small : length t ≤ 16777216) where
  -- by what the next turn comes to; k bytes at most are left
  abbrev Further : ℕ → Type 0
  Further k = (s : State) (n used : ℕ) → Stands t b s n used → length t ≤ s.cursor.at + k → Short t n used (left rules t book b s n used)

  abbrev Below : ℕ → Type 0
  Below zero = Unit {0}
  Below (suc k) = Further k

  by_turn : (k : ℕ) → Below k → (s : State) (n used : ℕ) → Stands t b s n used → length t ≤ s.cursor.at + k
      → (s' : State) (bs vs : List ℕ) (next : Next) → Makes rules t book b s n used s' (used + length bs) bs vs next → Short t n used (left rules t book b s n used)
  by_turn k ih s n used stands near s' bs vs (Over e) l = rw l (over_short t n used e (omega (arith, stands.short, stands.within)) (omega (arith, stands.few, stands.within)))
  by_turn zero ih s n used stands near s' bs vs On (f, m, l, z) = absurd (omega (arith, m.within))
  by_turn zero ih s n used stands near s' bs vs (Listed e) (f, m, l, z, g) = absurd (omega (arith, m.within))
  by_turn (suc k) ih s n used stands near s' bs vs On (f, m, l, z) =
      let h = ih s' n (used + length bs) m (omega arith) in rw l (record { entries = h.entries; literals = omega (arith, h.literals) })
  by_turn (suc k) ih s n used stands near s' bs vs (Listed e) (f, m, l, z, g) =
      rw l (more_short t n used (record { entry = e; bytes = bs; values = vs }) (left rules t book b s' (n + 1) (used + length bs)) (ih s' (n + 1) (used + length bs) m (omega arith)))

  -- the next step
  abbrev step : State → Step
  step s = step_of rules t book s

  short : (k : ℕ) → Further k
  short zero s n used stands near =
      by_turn zero tt s n used stands near (step_state s (step s)) (step_bytes (step s)) (step_values (step s)) (step_next b n used (step s)) (turn_makes rules t book b s n used small stands)
  short (suc k) s n used stands near =
      by_turn (suc k) (short k) s n used stands near (step_state s (step s)) (step_bytes (step s)) (step_values (step s)) (step_next b n used (step s)) (turn_makes rules t book b s n used small stands)

pub run_short_lem : (rules : Rules) (b : Bounds) (t book : List ℕ) → Short t 0 0 (run_of rules b t book)
unfolding script_of
run_short_lem rules b t book = by (refuses_of t book) refl
  where
    by : (x : Asked) → refuses_of t book ≡ x → Short t 0 0 (run_of rules b t book)
    by (Ok u) z = rw (run_read rules b t book z) (short rules t book b (admitted t book z).short (length t) begun 0 0 (begun_stands t b) (omega arith))
    by (Err e) q = rw (run_refused rules b t book q) (over_short t 0 0 _ (omega arith) (omega arith))

-- and so both counts are far below 2^32
pub run_small : (rules : Rules) (b : Bounds) (t book : List ℕ) → (length (entries (run_of rules b t book).tokens) ≤ 16777216) × (length (literal_bytes (run_of rules b t book).tokens) ≤ 67108864)
unfolding entries literal_bytes
run_small rules b t book = by (refuses_of t book) refl
  where
    by : (x : Asked) → refuses_of t book ≡ x → (length (entries (run_of rules b t book).tokens) ≤ 16777216) × (length (literal_bytes (run_of rules b t book).tokens) ≤ 67108864)
    by (Ok u) q = let h = run_short_lem rules b t book in let s = (admitted t book q).short in (omega (arith, h.entries), omega (arith, h.literals))
    by (Err e) q = rw (run_refused rules b t book q) (omega arith, omega arith)
