-- Refused, or accepted.
use Prim.Native.Nat.{ℕ}
use mathlib.Core.List.{List}
use mathlib.Core.Path.{◌≡◌, sym, ◌∙◌}
use lib.ListN.{replicate}
use Rattle.literal.specs.Trace.{Trace, bytes}
use Rattle.literal.specs.Scans.{Scanned}
use Rattle.reading.specs.CutRun.{scanned}
use Rattle.script.specs.Rules.{document01}
use Rattle.script.specs.States.{state}
use Rattle.script.specs.Steps.{literal_trace}
use Rattle.string.proofs.scan.Keeps.{accepted_kept}
use Rattle.turn.proofs.Literals.{in_room_lem, over_again}
use Rattle.turn.proofs.Reading.{over_turn, over_kept, refused_next}
use Rattle.turn.proofs.literal.Goals as goal
use Rattle.turn.proofs.literal.Goals.{After-measure}

-- what was measured, and where
module _ (m : After-measure) where
  -- the reading
  abbrev body : Trace
  body = literal_trace document01 m.args.text.now m.args.opener m.args.from

  -- the answer, in the run's words: the memory lent is the bounds' literal room
  answered : {x : Scanned} → m.measure.result ≡ x → scanned m.args.room.bounds m.args.room.used m.args.from body ≡ x
  answered q = sym (in_room_lem m.args.room.bounds m.args.room.used _ m.args.from body m.requires.1) ∙ sym m.measure.ensures.value ∙ q

-- what was aside before
abbrev zeros : List ℕ
zeros = replicate 128 0

pub returns-in-Err : goal.returns-in-Err
returns-in-Err c = λ at braces due.
    let s = state at c.args.level braces due in
    let next = refused_next c.args.room.bounds c.args.room.listed c.args.room.used document01 c.args.text.now c.args.opener c.args.from s (answered (goal.at.returns-in-Err c).After-measure c.in-Err.is) in
    rw c.over.ensures (record { leads = (sym (over_turn _ _ _ s _ next), tt); literals = sym (over_kept _ _ _ s _ next _) })

pub accepted-requires : goal.accepted-requires
accepted-requires c =
    let yes = c.in-Ok.is in
    record {
      inside = c.requires.0;
      lent = c.requires.1;
      used = c.requires.2;
      accepted = answered (goal.at.accepted-requires c).After-measure yes;
      kept = λ n h. over_again (bytes (literal_trace document01 c.args.text.now c.args.opener c.args.from)) zeros (accepted_kept (literal_trace document01 c.args.text.now c.args.opener c.args.from) zeros yes (c.measure.ensures.body_kept n) h);
    }
