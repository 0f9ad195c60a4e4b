-- 11, 12 and 13 before 10; else the body is written and the entry made.
use Rattle.std.specs.Prelude.{Err}
use Prim.Native.Nat.{ℕ, ◌+◌, ◌≤◌}
use native.Mathlib.Omega.{arith}
use mathlib.Core.Bool.{Bool, false}
use mathlib.Core.List.{List}
use mathlib.Core.Path.{◌≡◌, refl, sym, ◌∙◌}
use lib.ListN.{length}
use Rattle.chars.specs.declared.cursor.Cursor.{Cursor}
use Rattle.fault.specs.declared.Fault.{Fault}
use Rattle.literal.specs.Trace.{bytes}
use Rattle.reading.specs.declared.Bounds.{Bounds}
use Rattle.script.specs.Rules.{document01}
use Rattle.script.specs.States.{state, begun}
use Rattle.script.specs.Steps.{Step, literal_trace, verdict_of, literal_step}
use Rattle.script.specs.declared.State.{State}
use Rattle.script.specs.Verdicts.{Verdict, all_fine}
use Rattle.turn.specs.Turns.{step_next, Turns}
use Rattle.turn.specs.declared.Next.TheVariants.{Over}
use Rattle.token.specs.Tokens.{EOF}
use Rattle.turn.proofs.Reading.{over_turn, over_kept, whole, wrong_next, full_next, listed_leads, listed_kept}
use Rattle.turn.proofs.accepted.Goals as goal
use Rattle.turn.proofs.accepted.Goals.{In-Ok, Start}

-- the literal that was accepted, in a run with so many interpolations open
module _ (k : Start) where
  abbrev b : Bounds
  b = k.args.room.bounds

  abbrev n : ℕ
  n = k.args.room.listed

  abbrev used : ℕ
  used = k.args.room.used

  abbrev text : List ℕ
  text = k.args.text.now

  abbrev literals : List ℕ
  literals = k.args.literals.now

  abbrev said : Verdict
  said = verdict_of k.args.read.opener k.args.level k.args.read.from k.args.read.end (bytes (literal_trace document01 text k.args.read.opener k.args.read.from))

  sized : (k.args.read.len ≡ length (bytes (literal_trace document01 text k.args.read.opener k.args.read.from))) × (used + k.args.read.len ≤ length literals)
  sized =
      let w = whole b n used document01 text k.args.read.opener k.args.read.from begun k.requires.accepted in
      (w.0, omega (arith, w.1, k.requires.used, k.requires.lent))

  module _ (at : Cursor) (braces : List ℕ) (due : Bool) where
    abbrev s : State
    s = state at k.args.level braces due

    abbrev step : Step
    step = literal_step document01 text k.args.read.opener k.args.read.from s

    -- it stops with a fault, and nothing is written
    stops : (f : Fault) (to : Cursor) → step_next b n used step ≡ Over (Err f) → Turns b n used s step (record { piece = false; token = EOF; to = to; used = used; next = Over (Err f) }) literals literals
    stops f to h = record { leads = (sym (over_turn b n used s step h), tt); literals = sym (over_kept b n used s step h literals) }

-- where nothing is wrong
module _ (told : In-Ok) where
  fine : (verdict_of told.args.read.opener told.args.level told.args.read.from told.args.read.end (bytes (literal_trace document01 told.args.text.now told.args.read.opener told.args.read.from))) ≡ all_fine
  fine = sym told.verdict-verdict.ensures ∙ told.in-Ok.is

pub overflow_add-after : goal.overflow_add-after
overflow_add-after c = omega (arith, (sized (goal.at.overflow_add-after c).Start).1)

pub verdict-verdict-requires : goal.verdict-verdict-requires
verdict-verdict-requires c = ((sized (goal.at.verdict-verdict-requires c).Start).0, c.requires.kept)

pub write-requires : goal.write-requires
write-requires c = c.requires

pub list-requires : goal.list-requires
list-requires c = refl

pub returns-then-room : goal.returns-then-room
returns-then-room c =
    λ at braces due. rw c.list.ensures (record {
      leads = listed_leads c.args.room.bounds c.args.room.listed c.args.room.used document01 c.args.text.now c.args.read.opener c.args.read.from (s (goal.at.returns-then-room c).Start at braces due) c.requires.accepted (fine (goal.at.returns-then-room c).In-Ok) c.if-room.true;
      literals = c.write.ensures ∙ sym (listed_kept c.args.room.bounds c.args.room.listed c.args.room.used document01 c.args.text.now c.args.read.opener c.args.read.from (s (goal.at.returns-then-room c).Start at braces due) c.requires.accepted (fine (goal.at.returns-then-room c).In-Ok) c.if-room.true c.args.literals.now);
    })

pub returns-in-Err : goal.returns-in-Err
returns-in-Err c =
    let wrong = sym c.verdict-verdict.ensures ∙ c.in-Err.is in
    λ at braces due. rw c.over.ensures (stops (goal.at.returns-in-Err c).Start at braces due _ _ (wrong_next c.args.room.bounds c.args.room.listed c.args.room.used document01 c.args.text.now c.args.read.opener c.args.read.from (s (goal.at.returns-in-Err c).Start at braces due) c.requires.accepted wrong))

pub returns-else-room : goal.returns-else-room
returns-else-room c =
    λ at braces due. rw c.stop.ensures
    (stops (goal.at.returns-else-room c).Start at braces due _ _ (full_next c.args.room.bounds c.args.room.listed c.args.room.used document01 c.args.text.now c.args.read.opener c.args.read.from (s (goal.at.returns-else-room c).Start at braces due) c.requires.accepted (fine (goal.at.returns-else-room c).In-Ok) c.if-room.false))
