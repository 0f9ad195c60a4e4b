-- What a script's reading tells is small. Assumes nothing.
use Rattle.lex_error.specs.declared.LexError.TheVariants.{NotOneCharacter, StillOpen, TooDeep}
use Rattle.std.specs.Prelude.{Err, Ok}
use Prim.Native.Nat.{ℕ, zero, suc, ◌-◌, ◌≤◌}
use native.Mathlib.Omega.{arith}
use mathlib.Core.List.{List, [], ◌∷◌}
use lib.Dec.{eqb, leb}
use lib.ListN.{length}
use Rattle.basis.specs.Pick.{isnt}
use Rattle.basis.proofs.Cases.{pick_cases}
use Rattle.position.proofs.Small.{Small, none_small, advanced_small}
use Rattle.utf8.specs.Table.{chars}
use Rattle.classes.specs.Marks.{hash, apostrophe}
use Rattle.fault.proofs.Small.{Tells, fault_tells}
use Rattle.chars.specs.declared.cursor.Cursor.{Cursor}
use Rattle.literal.specs.declared.End.{End}
use Rattle.literal.specs.Trace.{Trace, bytes, final, Outcome, good, bad}
use Rattle.literal.proofs.Lands.{Lands}
use Rattle.literal.proofs.Small.{Traced, OutcomeSmall, final_small}
use Rattle.raw.proofs.scan.Small.{read_traced}
use Rattle.string.proofs.Small.{reading_traced}
use Rattle.find.specs.Find.{opens_text, find_of}
use Rattle.find.specs.declared.Opener.{Opener}
use Rattle.find.specs.declared.Found.{Found}
use Rattle.find.specs.declared.Found.TheVariants as found
use Rattle.find.proofs.Ahead as Finds
use Rattle.find.proofs.Ahead.{find_ahead}
use Rattle.find.proofs.Small.{FoundSmall, find_small}
use Rattle.reading.specs.Reading.{Reading}
use Rattle.entry.specs.Kinds as Kind
use Rattle.entry.proofs.KindNumbers.{kind_small}
use Rattle.reading.proofs.Small.{Readable, TokenSmall}
use Rattle.script.specs.Rules.{Rules}
use Rattle.script.specs.declared.State.{State}
use Rattle.script.specs.States.{moved_to, interpolating}
use Rattle.script.specs.Steps.{Step, on, last, Note, nothing, token, literal, noted, literal_trace, verdict_of, listed_of, on_verdict, on_end, literal_step, end_step, on_found, step_of}
use Rattle.script.specs.Verdicts.{Verdict}
use Rattle.script.specs.Script.{on_step, reading_from, script_from}
use Rattle.script.proofs.Ahead.{behind_cursor, trace_lands}

module _ (rules : Rules) (t book : List ℕ) where
  abbrev NoteSmall : Note → Type 0
  NoteSmall nothing = Unit {0}
  NoteSmall (token k) = TokenSmall (length t) k
  NoteSmall (literal k x) = TokenSmall (length t) k × Traced (length t) x

  abbrev StepSmall : Step → Type 0
  StepSmall (on x s) = NoteSmall x × Small s.cursor.place × (s.cursor.at ≤ length t)
  StepSmall (last r) = Readable (length t) r

  -- what is to be said of a literal that its scan accepts
  abbrev VerdictSmall : Verdict → Type 0
  VerdictSmall (Ok u) = Unit {0}
  VerdictSmall (Err f) = Tells (length t) f

  verdict_small : (o : Opener) (level : ℕ) (from : Cursor) (e : End) (body : List ℕ) → Small from.place → Small e.cursor.place → VerdictSmall (verdict_of o level from e body)
  unfolding verdict_of
  verdict_small o level from e body h k =
      pick_cases VerdictSmall (isnt (eqb e.on_record.times 0)) _ _ (λ y. fault_tells (length t) StillOpen k)
      (λ n. pick_cases VerdictSmall e.interpolated _ _
      (λ y. pick_cases VerdictSmall (leb 16 level) _ _ (λ z. fault_tells (length t) TooDeep h) (λ z. tt))
      (λ m. pick_cases VerdictSmall (eqb o.terminator apostrophe) _ _
      (λ y. pick_cases VerdictSmall (eqb (length (chars body)) 1) _ _ (λ z. tt) (λ z. fault_tells (length t) NotOneCharacter h))
      (λ z. tt)))

  trace_small : (o : Opener) (from : Cursor) → Small from.place → Traced (length t) (literal_trace rules t o from)
  unfolding literal_trace
  trace_small o from h =
      pick_cases (Traced (length t)) (eqb o.terminator hash) _ _ (λ y. read_traced rules.newlines t from 0 h) (λ n. reading_traced rules.white t o.terminator from h)

  -- a literal that begins within the script, and lands within it
  module _ (o : Opener) (from : Cursor) (h : Small from.place) (inside : from.at ≤ length t) (s : State) (within : s.cursor.at ≤ length t) where
    ended_small : (x : Trace) → Traced (length t) x → (y : Outcome) → Lands t from.at 0 (length (bytes x)) y → OutcomeSmall (length t) y → StepSmall (on_end o from x s y)
    unfolding listed_of interpolating moved_to
    ended_small x i (bad f) land j = (h, i, j)
    ended_small x i (good e) land j = by (verdict_of o s.level from e (bytes x)) (verdict_small o s.level from e (bytes x) h j)
      where
        by : (v : Verdict) → VerdictSmall v → StepSmall (on_verdict o from x e s v)
        by (Ok u) k =
            pick_cases StepSmall e.interpolated _ _
            (λ z. ((record { kind = kind_small Kind.interpolated; place = h; starts = within; ends = land.1 inside }, i), j, land.1 inside))
            (λ z. ((record { kind = kind_small o.kind; place = h; starts = within; ends = land.1 inside }, i), j, land.1 inside))
        by (Err f) k = (h, i, k)

    literal_small : StepSmall (literal_step rules t o from s)
    unfolding literal_step
    literal_small =
        let x = trace_small o from h in
        ended_small (literal_trace rules t o from) x (final (literal_trace rules t o from)) (trace_lands rules t o from inside) (final_small (length t) (literal_trace rules t o from) x)

  module _ (s : State) (h : Small s.cursor.place) (within : s.cursor.at ≤ length t) where
    found_small : (x : Found) → Finds.Ahead t s.cursor.at x → FoundSmall rules.white t book x → StepSmall (on_found rules t s x)
    unfolding end_step moved_to
    found_small (found.White c) a k = (tt, k, a.1)
    found_small (found.Part c k w) a q = (record { kind = kind_small k; place = advanced_small h; starts = within; ends = a.1 }, rw (behind_cursor w c s) q, rw (behind_cursor w c s) a.1)
    found_small (found.Literal c o) a q = literal_small o c q a.1 s within
    found_small (found.Wrong f) a k = k
    found_small found.End a k = pick_cases (Readable (length t)) (eqb s.level 0) _ _ (λ y. h) (λ n. fault_tells (length t) StillOpen h)

    step_small : StepSmall (step_of rules t book s)
    unfolding step_of
    step_small =
        pick_cases StepSmall s.due _ _ (λ y. literal_small opens_text s.cursor h within s within)
        (λ n. found_small (find_of rules.white t book s.cursor) (find_ahead rules.white t book s.cursor) (find_small rules.white t book s.cursor h))

  -- a note in front of a reading
  noted_small : (x : Note) (r : Reading) → NoteSmall x → Readable (length t) r → Readable (length t) (noted x r)
  noted_small nothing r h k = k
  noted_small (token i) r h k = (h, k)
  noted_small (literal i x) r h k = (h.0, h.1, k)

  -- where a run stands within the script, at a small place
  abbrev Standing : State → Type 0
  Standing s = Small s.cursor.place × (s.cursor.at ≤ length t)

  led_small : (x : Step) → StepSmall x → (next : State → Reading) → ((s : State) → Standing s → Readable (length t) (next s)) → Readable (length t) (on_step x next)
  led_small (on x s) h next k = noted_small x (next s) h.0 (k s (h.1, h.2))
  led_small (last r) h next k = h

  reading_small : (k : ℕ) (bs : List ℕ) (s : State) → Standing s → Readable (length t) (reading_from rules t book k bs s)
  unfolding reading_from
  reading_small k [] s h = led_small (step_of rules t book s) (step_small s h.0 h.1) _ (λ s' i. fault_tells (length t) StillOpen none_small)
  reading_small zero (b ∷ bs) s h = led_small (step_of rules t book s) (step_small s h.0 h.1) _ (λ s' i. reading_small (s'.cursor.at - suc s.cursor.at) bs s' i)
  reading_small (suc k) (b ∷ bs) s h = reading_small k bs s h

  pub script_small : (s : State) → Small s.cursor.place → s.cursor.at ≤ length t → Readable (length t) (script_from rules t book s)
  unfolding script_from
  script_small s h l = reading_small 0 _ s (h, l)
