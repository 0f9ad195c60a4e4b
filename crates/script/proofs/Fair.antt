-- In a script's reading only a test of the limit is 7, at its literal's start, and no rule of its own is 7, 9 or 10. Assumes nothing.
use Rattle.std.specs.Prelude.{Err, Ok}
use Prim.Native.Nat.{ℕ, zero, suc, ◌-◌, ◌≤◌}
use native.Mathlib.Omega.{arith}
use mathlib.Core.List.{List, [], ◌∷◌}
use mathlib.Core.Path.{◌≡◌, refl}
use lib.Dec.{eqb, leb}
use lib.ListN.{length}
use Rattle.basis.specs.Pick.{isnt}
use Rattle.basis.proofs.Cases.{pick_cases}
use Rattle.utf8.specs.Table.{chars}
use Rattle.classes.specs.Marks.{hash, apostrophe}
use Rattle.fault.specs.declared.Fault.{Fault}
use Rattle.position.specs.Place.{none}
use Rattle.fault.specs.Faults.{Own, number, still_open, not_one_character, too_deep}
use Rattle.chars.specs.declared.cursor.Cursor.{Cursor}
use Rattle.literal.specs.declared.End.{End}
use Rattle.literal.specs.Trace.{Trace, bytes, final, Outcome, good, bad}
use Rattle.literal.specs.Limits.{FairTrace}
use Rattle.literal.proofs.Limits.{own_refusal}
use Rattle.raw.proofs.scan.Limits.{read_fair_trace}
use Rattle.string.proofs.Limits.{reading_fair_trace}
use Rattle.find.specs.Find.{opens_text, find_of}
use Rattle.find.specs.declared.Opener.{Opener}
use Rattle.find.specs.declared.Found.{Found}
use Rattle.find.specs.declared.Found.TheVariants as found
use Rattle.find.proofs.Ahead as Finds
use Rattle.find.proofs.Ahead.{find_ahead}
use Rattle.reading.specs.Reading.{Reading}
use Rattle.reading.specs.Limits.{Fair}
use Rattle.script.specs.Rules.{Rules}
use Rattle.script.specs.declared.State.{State}
use Rattle.script.specs.Steps.{Step, on, last, Note, nothing, token, literal, noted, literal_trace, verdict_of, listed_of, on_verdict, on_end, literal_step, end_step, on_found, step_of}
use Rattle.script.specs.Verdicts.{Verdict}
use Rattle.script.specs.Script.{on_step, reading_from, script_from}

-- what a step puts in front of a reading, or the reading that it ends with
abbrev FairNote : Note → Type 0
FairNote nothing = Unit {0}
FairNote (token k) = Unit {0}
FairNote (literal k x) = FairTrace k.start.place x

abbrev FairStep : Step → Type 0
FairStep (on x s) = FairNote x
FairStep (last r) = Fair r

noted_fair : (x : Note) (r : Reading) → FairNote x → Fair r → Fair (noted x r)
noted_fair nothing r f g = g
noted_fair (token k) r f g = g
noted_fair (literal k x) r f g = (f, g)

led_fair : (x : Step) → FairStep x → (next : State → Reading) → ((s : State) → Fair (next s)) → Fair (on_step x next)
led_fair (on x s) f next g = noted_fair x (next s) f (g s)
led_fair (last r) f next g = f

eleven : (n : ℕ) → 11 ≤ n → (f : Fault) → number f ≡ n → Own f
eleven n h f q = (λ z. omega arith, λ z. omega arith, λ z. omega arith)

-- what is wrong with a literal that its scan accepts is 11, 12 or 13
module _ (o : Opener) (level : ℕ) (from : Cursor) (e : End) (body : List ℕ) where
  abbrev Late : Verdict → Type 0
  Late (Ok u) = Unit {0}
  Late (Err f) = Own f

  verdict_late : Late (verdict_of o level from e body)
  unfolding verdict_of
  verdict_late =
      pick_cases Late (isnt (eqb e.on_record.times 0)) _ _ (λ y. eleven 11 (omega arith) (still_open e.cursor.place) refl)
      (λ n. pick_cases Late e.interpolated _ _
      (λ y. pick_cases Late (leb 16 level) _ _ (λ z. eleven 13 (omega arith) (too_deep from.place) refl) (λ z. tt))
      (λ m. pick_cases Late (eqb o.terminator apostrophe) _ _
      (λ y. pick_cases Late (eqb (length (chars body)) 1) _ _ (λ z. tt) (λ z. eleven 12 (omega arith) (not_one_character from.place) refl))
      (λ z. tt)))

module _ (rules : Rules) (t book : List ℕ) where
  trace_fair_trace : (o : Opener) (from : Cursor) → FairTrace from.place (literal_trace rules t o from)
  unfolding literal_trace
  trace_fair_trace o from =
      pick_cases (FairTrace from.place) (eqb o.terminator hash) _ _ (λ y. read_fair_trace rules.newlines t from 0) (λ n. reading_fair_trace rules.white t o.terminator from)

  ended_fair : (o : Opener) (from : Cursor) (x : Trace) (s : State) → FairTrace from.place x → (y : Outcome) → final x ≡ y → FairStep (on_end o from x s y)
  unfolding listed_of
  ended_fair o from x s sv (bad f) h = (sv, own_refusal from.place x f sv h)
  ended_fair o from x s sv (good e) h = by (verdict_of o s.level from e (bytes x)) (verdict_late o s.level from e (bytes x))
    where
      by : (v : Verdict) → Late o s.level from e (bytes x) v → FairStep (on_verdict o from x e s v)
      by (Ok u) l = pick_cases FairStep e.interpolated _ _ (λ i. sv) (λ i. sv)
      by (Err f) l = (sv, l)

  literal_fair : (o : Opener) (from : Cursor) (s : State) → FairStep (literal_step rules t o from s)
  unfolding literal_step
  literal_fair o from s = ended_fair o from (literal_trace rules t o from) s (trace_fair_trace o from) (final (literal_trace rules t o from)) refl

  found_fair : (s : State) (x : Found) → Finds.Ahead t s.cursor.at x → FairStep (on_found rules t s x)
  unfolding end_step
  found_fair s (found.White c) h = tt
  found_fair s (found.Part c k w) h = tt
  found_fair s (found.Literal c o) h = literal_fair o c s
  found_fair s (found.Wrong f) h = h
  found_fair s found.End h = pick_cases Fair (eqb s.level 0) _ _ (λ y. tt) (λ n. eleven 11 (omega arith) (still_open s.cursor.place) refl)

  step_fair : (s : State) → FairStep (step_of rules t book s)
  unfolding step_of
  step_fair s = pick_cases FairStep s.due _ _ (λ y. literal_fair opens_text s.cursor s) (λ n. found_fair s (find_of rules.white t book s.cursor) (find_ahead rules.white t book s.cursor))

  reading_fair : (k : ℕ) (bs : List ℕ) (s : State) → Fair (reading_from rules t book k bs s)
  unfolding reading_from
  reading_fair k [] s = led_fair (step_of rules t book s) (step_fair s) _ (λ s'. eleven 11 (omega arith) (still_open none) refl)
  reading_fair zero (b ∷ bs) s = led_fair (step_of rules t book s) (step_fair s) _ (λ s'. reading_fair (s'.cursor.at - suc s.cursor.at) bs s')
  reading_fair (suc k) (b ∷ bs) s = reading_fair k bs s

  pub script_fair : (s : State) → Fair (script_from rules t book s)
  unfolding script_from
  script_fair s = reading_fair 0 _ s
