-- The turn of what is no literal, and which step it is, for each way out of the functions. Assumes nothing.
use Rattle.std.specs.Prelude.{Err, Ok}
use Prim.Native.Nat.{ℕ, ◌-◌, ◌≤◌, ◌<◌}
use native.Mathlib.Nat.{add-zero}
use mathlib.Core.Bool.{Bool, true, false}
use mathlib.Core.List.{List}
use mathlib.Core.Path.{◌≡◌, refl, sym, ap}
use lib.Dec.{ltb}
use borrow.Author.Tests.{eq-eqb, ne_eqb, lt-ltb, le-ltb}
use Rattle.basis.specs.Pick.{pick}
use Rattle.position.specs.Place.{advanced}
use Rattle.fault.specs.declared.Fault.{Fault}
use Rattle.fault.specs.Faults.{still_open, no_token_room}
use Rattle.entry.specs.Entries.{entry}
use Rattle.entry.specs.declared.Entry.{Entry}
use Rattle.entry.specs.declared.kinds.Kind.{Kind}
use Rattle.chars.specs.declared.cursor.Cursor.{Cursor}
use Rattle.find.specs.Find.{opens_text, find_of}
use Rattle.find.specs.declared.Found.{Found}
use Rattle.find.proofs.Ahead as Finds
use Rattle.find.proofs.Ahead.{find_ahead}
use Rattle.reading.specs.Reading.{halts}
use Rattle.reading.specs.CutRun.{cut_run}
use Rattle.reading.specs.declared.Bounds.{Bounds}
use Rattle.script.specs.Rules.{Rules}
use Rattle.script.specs.States.{moved_to, behind}
use Rattle.script.specs.Steps.{on, last, nothing, literal_step, part_step, end_step, on_found, step_of}
use Rattle.script.specs.declared.State.{State}
use Rattle.turn.specs.Turns.{step_next, step_state, step_bytes, went, turn_of, literals_then, literals_behind}
use Rattle.turn.specs.declared.Next.TheVariants.{On, Listed, Over}
use Rattle.turn.proofs.Reading.{stopped}

module _ (b : Bounds) (n used : ℕ) (s : State) where
  -- ---- a part of the script
  module _ (k : Kind) (w : ℕ) (to : Cursor) where
    abbrev listing : Entry
    listing = entry k (advanced s.cursor.place) s.cursor.at (to.at - s.cursor.at)

    pub part_listed : n < b.entries → went (behind w to s) used (Listed listing) ≡ turn_of b n used s (part_step k w to s)
    unfolding turn_of step_next step_state step_bytes
    part_listed y = rw (lt-ltb n b.entries y) (ap (λ (m : ℕ). went (behind w to s) m (Listed listing)) (sym (add-zero used)))

    pub part_full : b.entries ≤ n → stopped s used (no_token_room (advanced s.cursor.place)) ≡ turn_of b n used s (part_step k w to s)
    unfolding turn_of step_next
    part_full l = rw (le-ltb n b.entries l)

    pub part_kept : (old : List ℕ) → old ≡ literals_behind b n used (part_step k w to s) old
    unfolding literals_behind step_next step_bytes
    part_kept old = by (ltb n b.entries)
      where
        by : (f : Bool) → old ≡ literals_then old used (part_step k w to s) (pick f (Listed listing) (Over (Err (no_token_room (advanced s.cursor.place)))))
        by true = refl
        by false = refl

  -- ---- white space
  module _ (to : Cursor) where
    pub white_turn : went (moved_to to s) used On ≡ turn_of b n used s (on nothing (moved_to to s))
    unfolding turn_of step_next step_state step_bytes
    white_turn = ap (λ (m : ℕ). went (moved_to to s) m On) (sym (add-zero used))

    pub white_kept : (old : List ℕ) → old ≡ literals_behind b n used (on nothing (moved_to to s)) old
    unfolding literals_behind step_next step_bytes
    white_kept old = refl

  -- ---- what a script may not have
  module _ (f : Fault) where
    pub wrong_turn : stopped s used f ≡ turn_of b n used s (last (halts f))
    unfolding turn_of step_next cut_run
    wrong_turn = refl

    pub wrong_kept : (old : List ℕ) → old ≡ literals_behind b n used (last (halts f)) old
    unfolding literals_behind step_next
    wrong_kept old = refl

  -- ---- the script's end
  pub end_here : s.level ≡ 0 → went s used (Over (Ok s.cursor.place)) ≡ turn_of b n used s (end_step s)
  unfolding end_step turn_of step_next cut_run
  end_here q = rw (eq-eqb s.level 0 q)

  pub end_open : (s.level ≡ 0 → ⊥) → stopped s used (still_open s.cursor.place) ≡ turn_of b n used s (end_step s)
  unfolding end_step turn_of step_next cut_run
  end_open q = rw (ne_eqb s.level 0 q)

  pub end_kept : (old : List ℕ) → old ≡ literals_behind b n used (end_step s) old
  unfolding end_step literals_behind step_next
  end_kept old = refl

-- ---- which step it is
module _ (rules : Rules) (t book : List ℕ) (s : State) where
  pub step_due : s.due ≡ true → step_of rules t book s ≡ literal_step rules t opens_text s.cursor s
  unfolding step_of
  step_due y = rw y

  pub step_found : {x : Found} → s.due ≡ false → find_of rules.white t book s.cursor ≡ x → step_of rules t book s ≡ on_found rules t s x
  unfolding step_of
  step_found n e = rw (n, e)

  -- what is found is further on
  pub found_further : {x : Found} → find_of rules.white t book s.cursor ≡ x → Finds.Ahead t s.cursor.at x
  found_further e = rw e at (find_ahead rules.white t book s.cursor)
