-- What is left of a script within the bounds, by what a turn comes to. Assumes nothing.
use Rattle.std.specs.Prelude.{Err, Ok}
use Prim.Native.Nat.{ℕ, ◌+◌, ◌≤◌}
use native.Mathlib.Nat.{add-zero}
use mathlib.Core.Bool.{Bool, true, false}
use mathlib.Core.List.{List, []}
use mathlib.Core.Path.{◌≡◌, refl, sym, ap, ◌∙◌}
use lib.Dec.{ltb}
use lib.ListN.{length}
use Rattle.basis.specs.Pick.{pick}
use Rattle.fault.specs.Faults.{no_token_room}
use Rattle.entry.specs.Entries.{entry}
use Rattle.literal.specs.Trace.{bytes}
use Rattle.literal.specs.Scans.{Scanned}
use Rattle.literal.proofs.Limits.{accepted_whole}
use Rattle.reading.specs.Reading.{Reading, finishes, halts, spoils, lists, reads, kept, kept_part, Left, nothing_more, more}
use Rattle.reading.specs.CutRun as CutRun
use Rattle.reading.specs.CutRun.{scanned, cut_run}
use Rattle.reading.specs.declared.Bounds.{Bounds}
use Rattle.script.specs.Rules.{Rules}
use Rattle.script.specs.Steps.{Step, on, last, Note, nothing, token, literal, noted, packed_of, step_of}
use Rattle.script.specs.Script.{script_from}
use Rattle.script.specs.States.{Fine}
use Rattle.script.specs.declared.State.{State}
use Rattle.script.proofs.Onward.{reading_on, reading_over}
use Rattle.script.proofs.Ahead.{Idle, Ahead, step_ahead}
use Rattle.turn.specs.Turns.{listed_within, on_scanned, step_next, step_state, step_bytes}
use Rattle.turn.specs.declared.Next.{Next}
use Rattle.turn.specs.declared.Next.TheVariants.{On, Listed, Over}

-- the values of what a step notes
abbrev pub note_values : Note → List ℕ
note_values nothing = []
note_values (token k) = k.values
note_values (literal k x) = k.values

unfoldable pub step_values : Step → List ℕ
step_values (on x s) = note_values x
step_values (last r) = []

-- what a reading comes to, as what the next turn says of it and what is left behind that
module _ (b : Bounds) (n used : ℕ) where
  abbrev pub Comes : Left → (ℕ → ℕ → Left) → List ℕ → List ℕ → Next → Type 0
  Comes l rest bs vs On = l ≡ rest n used
  Comes l rest bs vs (Listed e) = l ≡ more (record { entry = e; bytes = bs; values = vs }) (rest (n + 1) (used + length bs))
  Comes l rest bs vs (Over e) = l ≡ nothing_more e

  idle_ends : (r : Reading) → Idle r → cut_run b n used r ≡ nothing_more (cut_run b n used r).ending
  unfolding cut_run
  idle_ends (finishes p) i = refl
  idle_ends (halts f) i = refl
  idle_ends (spoils from x f) i = by (scanned b used from x)
    where
      by : (a : Scanned) → CutRun.on_scan a (λ m. nothing_more (Err f)) ≡ nothing_more (CutRun.on_scan a (λ m. nothing_more (Err f))).ending
      by (Ok (e, m)) = refl
      by (Err g) = refl
  idle_ends (lists k r) i = absurd i
  idle_ends (reads k x r) i = absurd i

  module _ (r : Reading) where
    abbrev rest : ℕ → ℕ → Left
    rest m u = cut_run b m u r

    note_comes : (x : Note) (s : State) → Comes (cut_run b n used (noted x r)) rest (packed_of x) (note_values x) (step_next b n used (on x s))
    unfolding cut_run step_next
    note_comes nothing s = refl
    note_comes (token k) s = by (ltb n b.entries)
      where
        by : (free : Bool)
            → Comes (pick free (more (kept_part k) (rest (n + 1) used)) (nothing_more (Err (no_token_room k.start.place)))) rest [] k.values (pick free (Listed (kept_part k).entry) (Over (Err (no_token_room k.start.place))))
        by true = ap (λ (u : ℕ). more (kept_part k) (rest (n + 1) u)) (sym (add-zero used))
        by false = refl
    note_comes (literal k x) s = by (scanned b used k.start x) refl
      where
        in_room_lem : (free : Bool) (m : ℕ) → m ≡ length (bytes x)
            → Comes (pick free (more (kept k used m (bytes x)) (rest (n + 1) (used + m))) (nothing_more (Err (no_token_room k.start.place)))) rest (bytes x) k.values
            (pick free (Listed (entry k.kind k.start.place used m)) (Over (Err (no_token_room k.start.place))))
        in_room_lem true m q = ap (λ (u : ℕ). more (kept k used m (bytes x)) (rest (n + 1) (used + u))) q
        in_room_lem false m q = refl

        by : (a : Scanned) → scanned b used k.start x ≡ a
            → Comes (CutRun.on_scan a (λ m. CutRun.in_room b n k.start.place (more (kept k used m (bytes x)) (rest (n + 1) (used + m))))) rest (bytes x) k.values
            (on_scanned a (λ m. listed_within b n (entry k.kind k.start.place used m)))
        by (Err f) h = refl
        by (Ok (e, m)) h = in_room_lem (ltb n b.entries) m (accepted_whole _ _ _ x e m h).0

  module _ (rules : Rules) (t book : List ℕ) (s : State) (fine : Fine s) (small : length t ≤ 16777216) (within : s.cursor.at ≤ length t) where
    abbrev step : Step
    step = step_of rules t book s

    -- the turn of a step
    pub turn_comes : Comes (cut_run b n used (script_from rules t book s)) (λ m u. cut_run b m u (script_from rules t book (step_state s step))) (step_bytes step) (step_values step) (step_next b n used step)
    unfolding step_state step_bytes step_values step_next
    turn_comes = by (step_of rules t book s) refl (step_ahead rules t book s fine small within)
      where
        by : (x : Step) → step_of rules t book s ≡ x → Ahead t s x
            → Comes (cut_run b n used (script_from rules t book s)) (λ m u. cut_run b m u (script_from rules t book (step_state s x))) (step_bytes x) (step_values x) (step_next b n used x)
        by (last r) q i = ap (cut_run b n used) (reading_over rules t book s q) ∙ idle_ends r i
        by (on note s') q (f, l, g, k) = rw (reading_on rules t book s q f l) (note_comes (script_from rules t book s') note s')
