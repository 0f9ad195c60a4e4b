-- The turn of a literal, for each way out of the functions. Assumes nothing.
use Rattle.literal.specs.Scans.{accepted_as}
use Rattle.std.specs.Prelude.{Err, Ok}
use Prim.Native.Nat.{ℕ, ◌-◌, ◌≤◌, ◌<◌}
use mathlib.Core.Bool.{Bool, true, false}
use mathlib.Core.List.{List}
use mathlib.Core.Path.{◌≡◌, refl, ap, ◌∙◌}
use lib.ListN.{length}
use lib.Seq.{sets}
use borrow.Author.Tests.{lt-ltb, le-ltb}
use Rattle.basis.proofs.Cases.{pick_cases}
use Rattle.fault.specs.declared.Fault.{Fault}
use Rattle.fault.specs.Faults.{no_token_room}
use Rattle.chars.specs.declared.cursor.Cursor.{Cursor}
use Rattle.literal.specs.Answers.{full}
use Rattle.literal.specs.declared.End.{End}
use Rattle.literal.specs.declared.Refusal.{Refusal}
use Rattle.literal.specs.Trace.{Trace, bytes, final, Outcome, good, bad}
use Rattle.literal.proofs.Limits.{accepted_whole}
use Rattle.literal.proofs.Alike.{alike_accepted, alike_refused}
use Rattle.find.specs.declared.Opener.{Opener}
use Rattle.reading.specs.CutRun.{scanned, cut_run}
use Rattle.reading.specs.declared.Bounds.{Bounds}
use Rattle.script.specs.Rules.{Rules}
use Rattle.script.specs.States.{behind, behind_of}
use Rattle.script.specs.Steps.{Step, start_of, literal_trace, verdict_of, listed_of, on_verdict, on_end, literal_step}
use Rattle.script.specs.declared.State.{State}
use Rattle.script.specs.Verdicts.{Verdict, all_fine}
use Rattle.script.proofs.Ahead.{listed_fits}
use Rattle.turn.specs.Turns.{step_next, step_state, step_bytes, Went, went, turned, turn_of, literals_then, literals_behind, Leads, listed_as}
use Rattle.turn.specs.declared.Next.TheVariants.{Over}

-- a run that is over
abbrev pub stopped : State → ℕ → Fault → Went
stopped s used f = went s used (Over (Err f))

-- what is over changes nothing
module _ (b : Bounds) (n used : ℕ) (s : State) (x : Step) {f : Fault} (h : step_next b n used x ≡ Over (Err f)) where
  pub over_turn : turn_of b n used s x ≡ stopped s used f
  unfolding turn_of
  over_turn = ap (turned s used x) h

  pub over_kept : (old : List ℕ) → literals_behind b n used x old ≡ old
  unfolding literals_behind
  over_kept old = ap (literals_then old used x) h

module _ (b : Bounds) (n used : ℕ) (rules : Rules) (t : List ℕ) (o : Opener) (from : Cursor) (s : State) where
  abbrev x : Step
  x = literal_step rules t o from s

  abbrev tr : Trace
  tr = literal_trace rules t o from

  -- a run's scan stands at the literal's start, and so tells what the scan from behind its opener tells
  scanned_accepted : {e : End} {m : ℕ} → scanned b used from tr ≡ accepted_as e m → scanned b used (start_of from s) tr ≡ accepted_as e m
  scanned_accepted h = alike_accepted (full from) (full (start_of from s)) refl b.limit (b.literals - used) tr h

  pub refused_next : {f : Refusal} → scanned b used from tr ≡ Err f → step_next b n used x ≡ Over (Err f.fault)
  unfolding literal_step listed_of step_next cut_run
  refused_next {f} h =
      let z = alike_refused (full from) (full (start_of from s)) refl b.limit (b.literals - used) tr h in
      by z.1 (final tr) ∙ ap (λ (g : Fault). Over (Err g)) z.2
    where
      spoiled : {g : Refusal} → scanned b used (start_of from s) tr ≡ Err g → (e : End) (v : Verdict) → step_next b n used (on_verdict o from tr e s v) ≡ Over (Err g.fault)
      spoiled {g} q e (Ok u) = pick_cases (λ (y : Step). step_next b n used y ≡ Over (Err g.fault)) e.interpolated _ _ (λ i. rw q) (λ i. rw q)
      spoiled q e (Err w) = rw q

      by : {g : Refusal} → scanned b used (start_of from s) tr ≡ Err g → (y : Outcome) → step_next b n used (on_end o from tr s y) ≡ Over (Err g.fault)
      by q (bad w) = rw q
      by q (good e) = spoiled q e (verdict_of o s.level from e (bytes tr))

  module _ {e : End} {m : ℕ} (h : scanned b used from tr ≡ accepted_as e m) where
    pub whole : (m ≡ length (bytes tr)) × (m ≤ b.literals - used) × (final tr ≡ good e)
    whole = accepted_whole (full from) b.limit (b.literals - used) tr e m h

    pub wrong_next : {f : Fault} → verdict_of o s.level from e (bytes tr) ≡ Err f → step_next b n used x ≡ Over (Err f)
    unfolding literal_step step_next cut_run
    wrong_next q = rw (whole.2, q, scanned_accepted h)

    module _ (z : verdict_of o s.level from e (bytes tr) ≡ all_fine) where
      fine : x ≡ listed_of o from tr e s
      unfolding literal_step
      fine = rw (whole.2, z)

      pub full_next : b.entries ≤ n → step_next b n used x ≡ Over (Err (no_token_room from.place))
      unfolding listed_of step_next
      full_next l =
          ap (step_next b n used) fine
          ∙ pick_cases (λ (y : Step). step_next b n used y ≡ Over (Err (no_token_room from.place))) e.interpolated _ _
          (λ i. rw (scanned_accepted h, le-ltb n b.entries l)) (λ i. rw (scanned_accepted h, le-ltb n b.entries l))

      module _ (y : n < b.entries) where
        pub listed_leads : Leads s (listed_as o e from.place m used) (turn_of b n used s x)
        unfolding listed_of turn_of step_next listed_as step_state step_bytes behind behind_of
        listed_leads = rw fine (by e.interpolated refl)
          where
            by : (i : Bool) → e.interpolated ≡ i → Leads s (listed_as o e from.place m used) (turn_of b n used s (listed_of o from tr e s))
            by true i = rw (i, scanned_accepted h, lt-ltb n b.entries y, ← whole.0) (refl, listed_fits o s.level from e (bytes tr) z i)
            by false i = rw (i, scanned_accepted h, lt-ltb n b.entries y, ← whole.0) (refl, tt)

        pub listed_kept : (old : List ℕ) → literals_behind b n used x old ≡ sets old used (bytes tr)
        unfolding listed_of literals_behind step_next step_bytes
        listed_kept old = ap (λ (w : Step). literals_behind b n used w old) fine ∙ by e.interpolated refl
          where
            by : (i : Bool) → e.interpolated ≡ i → literals_behind b n used (listed_of o from tr e s) old ≡ sets old used (bytes tr)
            by true i = rw (i, scanned_accepted h, lt-ltb n b.entries y)
            by false i = rw (i, scanned_accepted h, lt-ltb n b.entries y)
