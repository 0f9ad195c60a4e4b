-- A step leads further into the script, and a run stays fine; or it is over, and nothing more is listed. Assumes nothing.
use Rattle.std.specs.Prelude.{Err, Ok}
use Prim.Native.Nat.{ℕ, ◌+◌, ◌*◌, ◌≤◌, ◌<◌}
use native.Mathlib.Omega.{arith}
use mathlib.Core.Bool.{Bool, true, false}
use mathlib.Core.List.{List}
use mathlib.Core.Path.{◌≡◌, refl}
use lib.Dec.{eqb, leb}
use lib.ListN.{length}
use borrow.Author.Tests.{eqb-true, leb-false}
use Rattle.basis.specs.Pick.{either, isnt}
use Rattle.basis.proofs.Cases.{pick_cases, not_both}
use Rattle.utf8.specs.Table.{chars}
use Rattle.classes.specs.Marks.{hash, apostrophe}
use Rattle.chars.specs.declared.cursor.Cursor.{Cursor}
use Rattle.literal.specs.declared.End.{End}
use Rattle.literal.specs.Trace.{Trace, bytes, final, Outcome, good, bad}
use Rattle.literal.proofs.Lands.{Lands, LandsFrom}
use Rattle.raw.proofs.scan.Lands.{raw_lands}
use Rattle.string.proofs.Lands.{string_lands}
use Rattle.find.specs.Find.{opens_text, find_of}
use Rattle.find.specs.declared.Opener.{Opener}
use Rattle.find.specs.declared.Found.{Found}
use Rattle.find.specs.declared.Found.TheVariants as found
use Rattle.find.proofs.Ahead as Finds
use Rattle.find.proofs.Ahead.{find_ahead}
use Rattle.token.specs.Tokens as Tokens
use Rattle.reading.specs.Reading.{Reading, finishes, halts, spoils, lists, reads}
use Rattle.script.specs.Rules.{Rules}
use Rattle.script.specs.declared.State.{State}
use Rattle.script.specs.declared.Crossed.TheVariants.{Plain, Piece, Token}
use Rattle.script.specs.States.{moved_to, interpolating, count, with_braces, resumed, opened, closed, behind, behind_of, Fine}
use Rattle.script.specs.Steps.{Step, on, last, Note, nothing, token, literal, literal_trace, verdict_of, listed_of, on_verdict, on_end, literal_step, end_step, on_found, step_of}
use Rattle.script.specs.Verdicts.{Verdict, all_fine}
use Rattle.script.proofs.Moves.{fine_behind}

-- a reading that lists nothing
abbrev pub Idle : Reading → Type 0
Idle (finishes p) = Unit {0}
Idle (halts f) = Unit {0}
Idle (spoils from x f) = Unit {0}
Idle (lists k r) = ⊥
Idle (reads k x r) = ⊥

-- what a note takes of the script, up to an offset: a token is a part of it, and a literal has four bytes at most for each byte
abbrev pub Takes : Note → ℕ → ℕ → Type 0
Takes nothing from to = Unit {0}
Takes (token k) from to = (k.start.at ≤ k.end.at) × (k.end.at ≤ to)
Takes (literal k x) from to = length (bytes x) + 4 * from ≤ 4 * to

-- where a step leads: further, or to an end at which nothing is listed
abbrev pub Ahead : List ℕ → State → Step → Type 0
Ahead t s (on n s') = (s.cursor.at < s'.cursor.at) × (s'.cursor.at ≤ length t) × Fine s' × Takes n s.cursor.at s'.cursor.at
Ahead t s (last r) = Idle r

-- a literal, whatever opens it
pub trace_lands : (rules : Rules) (t : List ℕ) (o : Opener) (from : Cursor) → from.at ≤ length t → LandsFrom t from.at 0 (literal_trace rules t o from)
unfolding literal_trace
trace_lands rules t o from l =
    pick_cases (λ (x : Trace). LandsFrom t from.at 0 x) (eqb o.terminator hash) _ _
    (λ y. raw_lands rules.newlines t from l)
    (λ n. string_lands t rules.white o.terminator from.place from refl)

-- a literal that is listed is closed, and where `${` ended it there is an interpolation left
module _ (o : Opener) (level : ℕ) (from : Cursor) (e : End) (body : List ℕ) where
  -- what is known of a literal of which there is nothing to be said
  abbrev Listed : Verdict → Type 0
  Listed (Ok u) = (e.on_record.times ≡ 0) × (e.interpolated ≡ true → level < 16)
  Listed (Err f) = Unit {0}

  is_listed : Listed (verdict_of o level from e body)
  unfolding verdict_of
  is_listed =
      pick_cases Listed (isnt (eqb e.on_record.times 0)) _ _ (λ y. tt)
      (λ n. let z = closed (eqb e.on_record.times 0) refl n in
      pick_cases Listed e.interpolated _ _
      (λ i. pick_cases Listed (leb 16 level) _ _ (λ y. tt) (λ m. (z, λ h. leb-false 16 level m)))
      (λ i. pick_cases Listed (eqb o.terminator apostrophe) _ _
      (λ y. pick_cases Listed (eqb (length (chars body)) 1) _ _ (λ u. (z, λ h. no_piece i h)) (λ u. tt))
      (λ m. (z, λ h. no_piece i h))))
    where
      closed : (b : Bool) → eqb e.on_record.times 0 ≡ b → isnt b ≡ false → e.on_record.times ≡ 0
      closed true y n = eqb-true _ 0 y
      closed false y n = not_both refl n

      no_piece : e.interpolated ≡ false → e.interpolated ≡ true → level < 16
      no_piece n y = not_both y n

  module _ (fine : verdict_of o level from e body ≡ all_fine) where
    pub listed_closed : e.on_record.times ≡ 0
    listed_closed = (rw fine at is_listed).0

    pub listed_fits : e.interpolated ≡ true → level < 16
    listed_fits = (rw fine at is_listed).1

-- behind a token a run stands at the cursor
pub behind_cursor : (w : ℕ) (to : Cursor) (s : State) → (behind w to s).cursor ≡ to
unfolding behind opened closed with_braces resumed moved_to
behind_cursor w to s =
    pick_cases At (either (eqb w Tokens.LeftBrace) (eqb w Tokens.MapStart)) _ _ (λ y. pick_cases At (eqb s.level 0) _ _ (λ z. refl) (λ z. refl))
    (λ n. pick_cases At (eqb w Tokens.RightBrace) _ _
    (λ y. pick_cases At (eqb s.level 0) _ _ (λ z. refl) (λ z. pick_cases At (leb (count s) 1) _ _ (λ u. refl) (λ u. refl)))
    (λ m. refl))
  where
    At : State → Type 0
    At r = r.cursor ≡ to

module _ (rules : Rules) (t book : List ℕ) (s : State) (fine : Fine s) (small : length t ≤ 16777216) where
  -- behind something further on
  passed : (to : Cursor) → s.cursor.at < to.at → to.at ≤ length t → Fine (moved_to to s)
  unfolding behind_of
  passed to h l = fine_behind to s fine h (omega arith) Plain tt

  pieced : (to : Cursor) → s.cursor.at < to.at → to.at ≤ length t → s.level < 16 → Fine (interpolating to s)
  unfolding behind_of
  pieced to h l d = fine_behind to s fine h (omega arith) Piece d

  tokened : (w : ℕ) (to : Cursor) → s.cursor.at < to.at → to.at ≤ length t → Fine (behind w to s)
  unfolding behind_of
  tokened w to h l = fine_behind to s fine h (omega arith) (Token w) tt

  listed_ahead : (o : Opener) (from : Cursor) (x : Trace) (e : End) → s.cursor.at < e.cursor.at → e.cursor.at ≤ length t → (e.interpolated ≡ true → s.level < 16)
      → length (bytes x) + 4 * s.cursor.at ≤ 4 * e.cursor.at → Ahead t s (listed_of o from x e s)
  unfolding listed_of interpolating moved_to
  listed_ahead o from x e f g d m =
      pick_cases (Ahead t s) e.interpolated _ _ (λ y. (f, g, pieced e.cursor f g (d y), m)) (λ n. (f, g, passed e.cursor f g, m))

  -- a literal whose body begins where the run stands, or further on
  module _ (o : Opener) (from : Cursor) (h : s.cursor.at ≤ from.at) (l : from.at ≤ length t) where
    ended_ahead : (x : Trace) (y : Outcome) → Lands t from.at 0 (length (bytes x)) y → Ahead t s (on_end o from x s y)
    ended_ahead x (bad f) p = tt
    ended_ahead x (good e) (a, b, c) = by (verdict_of o s.level from e (bytes x)) refl
      where
        by : (v : Verdict) → verdict_of o s.level from e (bytes x) ≡ v → Ahead t s (on_verdict o from x e s v)
        by (Ok u) q =
            listed_ahead o from x e (omega (arith, c (listed_closed o s.level from e (bytes x) q))) (b l) (listed_fits o s.level from e (bytes x) q) (omega (arith, a))
        by (Err f) q = tt

    literal_ahead : Ahead t s (literal_step rules t o from s)
    unfolding literal_step
    literal_ahead = ended_ahead (literal_trace rules t o from) (final (literal_trace rules t o from)) (trace_lands rules t o from l)

  found_ahead : (x : Found) → Finds.Ahead t s.cursor.at x → Ahead t s (on_found rules t s x)
  unfolding moved_to end_step
  found_ahead (found.White c) (a, b) = (a, b, passed c a b, tt)
  found_ahead (found.Part c k w) (a, b) = (rw (behind_cursor w c s) a, rw (behind_cursor w c s) b, tokened w c a b, (omega arith, rw (behind_cursor w c s) (omega arith)))
  found_ahead (found.Literal c o) (a, b) = literal_ahead o c (omega arith) b
  found_ahead (found.Wrong f) u = tt
  found_ahead found.End u = pick_cases Idle (eqb s.level 0) _ _ (λ y. tt) (λ n. tt)

  pub step_ahead : s.cursor.at ≤ length t → Ahead t s (step_of rules t book s)
  unfolding step_of
  step_ahead l =
      pick_cases (Ahead t s) s.due _ _ (λ y. literal_ahead opens_text s.cursor (omega arith) l)
      (λ n. found_ahead (find_of rules.white t book s.cursor) (find_ahead rules.white t book s.cursor))
