-- What passes a limit or a room in a script's reading, and what the bounds leave of it then. Demand 3 is stated in crate promises, in these words; the proofs are in proofs/Limits.antt.
use Rattle.std.specs.Prelude.{ℕ, ◌+◌, ◌-◌, ◌≤◌, List, [], ◌∷◌, ◌++◌, ◌⊎◌, ◌≡◌, length, Err}
use Rattle.position.specs.declared.Position.{Position}
use Rattle.fault.specs.declared.Fault.{Fault}
use Rattle.fault.specs.Faults.{string_too_long, no_literal_room, no_token_room, Own, number}
use Rattle.chars.specs.declared.cursor.Cursor.{Cursor}
use Rattle.literal.specs.declared.End.{End}
use Rattle.literal.specs.declared.Refusal.{Refusal}
use Rattle.literal.specs.Answers.{full}
use Rattle.literal.specs.Trace.{Trace, bytes, final, good}
use Rattle.literal.specs.Limits.{Looser, FairTrace, Bound, string_limit, literal_room, token_room, Cuts}
use Rattle.reading.specs.Reading.{Token, Reading, finishes, halts, spoils, lists, reads, Kept, kept, kept_part, Left, whole}
use Rattle.reading.specs.CutRun.{cut_run}
use Rattle.reading.specs.declared.Bounds.{Bounds}

-- in a script's reading, as in its literals', only a test of the limit is 7, and no rule of its own is 7, 9 or 10
abbrev pub Fair : Reading → Type 0
Fair (finishes p) = Unit {0}
Fair (halts f) = Own f
Fair (spoils s t f) = FairTrace s.place t × Own f
Fair (lists k r) = Fair r
Fair (reads k t r) = FairTrace k.start.place t × Fair r

-- the bounds c are nowhere stricter than b
abbrev pub Wider : Bounds → Bounds → Type 0
Wider b c = Looser b.limit c.limit × (b.literals ≤ c.literals) × (b.entries ≤ c.entries)

-- what l lists, with all that its tokens leave, m lists first
pub record Begins (l m : Left) : Type 0 where
  pub further : List Kept
  pub tokens : m.tokens ≡ l.tokens ++ further

-- a run's ending is caused by no limit and no room
abbrev pub EndsOwn : Left → Type 0
EndsOwn l = (f : Fault) → l.ending ≡ Err f → Own f

-- a fault that a limit or a room causes: 7, 9 or 10
abbrev pub Caused : Fault → Type 0
Caused f = (number f ≡ 7) ⊎ (number f ≡ 9) ⊎ (number f ≡ 10)

-- ---- the token that passes
-- document 01's refusal for a token that passes a bound, at the token's start: 7, 9 or 10
abbrev pub refused_by : Bound → Position → Fault
refused_by string_limit p = string_too_long p
refused_by literal_room p = no_literal_room p
refused_by token_room p = no_token_room p

-- the reading of a literal that begins at a cursor, finished or not, passes the limit or the literal room, where so many literal bytes are used
abbrev pub LiteralPasses : Bounds → ℕ → Cursor → Trace → Bound → Type 0
LiteralPasses b used s t by = (f : Refusal) × Cuts (full s) b.limit (b.literals - used) 0 t by f

-- the next token of a reading passes a bound, where n entries are listed and so many literal bytes used; and the place where it starts
pub data TokenPasses (b : Bounds) (n used : ℕ) : Reading → Bound → Position → Type 0 where
  -- a literal
  a_literal : {k : Token} {t : Trace} {r : Reading} {by : Bound} → LiteralPasses b used k.start t by → TokenPasses b n used (reads k t r) by k.start.place
  -- a literal that is not listed, for a fault in it or behind it
  an_unlisted : {s : Cursor} {t : Trace} {f : Fault} {by : Bound} → LiteralPasses b used s t by → TokenPasses b n used (spoils s t f) by s.place
  -- the entry of a literal that is read without fault and passes neither
  its_entry : {k : Token} {t : Trace} {r : Reading} {e : End}
      → ((by : Bound) → LiteralPasses b used k.start t by → ⊥) → final t ≡ good e → b.entries ≤ n → TokenPasses b n used (reads k t r) token_room k.start.place
  -- the entry of a token that is a part of the script
  an_entry : {k : Token} {r : Reading} → b.entries ≤ n → TokenPasses b n used (lists k r) token_room k.start.place

-- the next token of a reading by the unlimited rules, where so many literal bytes are used: what it leaves, and the reading behind it
pub data NextToken (used : ℕ) : Reading → Kept → Reading → Type 0 where
  a_part : {k : Token} {r : Reading} → NextToken used (lists k r) (kept_part k) r
  read_well : {k : Token} {t : Trace} {r : Reading} {e : End} → final t ≡ good e → NextToken used (reads k t r) (kept k used (length (bytes t)) (bytes t)) r

-- the first token that passes, where n entries are listed and so many literal bytes used: what the tokens before it leave, what it passes, and where it starts
pub data First (b : Bounds) : ℕ → ℕ → Reading → List Kept → Bound → Position → Type 0 where
  this_one : {n used : ℕ} {r : Reading} {by : Bound} {p : Position} → TokenPasses b n used r by p → First b n used r [] by p
  behind : {n used : ℕ} {r rest : Reading} {k : Kept} {ks : List Kept} {by : Bound} {p : Position}
      → NextToken used r k rest → ((to : Bound) (q : Position) → TokenPasses b n used r to q → ⊥) → First b (n + 1) (used + length k.bytes) rest ks by p → First b n used r (k ∷ ks) by p

pub record FirstPast (b : Bounds) (n used : ℕ) (r : Reading) : Type 0 where
  pub tokens : List Kept
  pub bound : Bound
  pub place : Position
  pub first : First b n used r tokens bound place

-- what a run leaves that stops there
abbrev pub stopped : List Kept → Bound → Position → Left
stopped ks by p = record { tokens = ks; ending = Err (refused_by by p) }

-- ---- what the bounds leave
-- where a token passes, what is before the first such token, and its refusal
abbrev pub StopsThere : Type 0
StopsThere = (b : Bounds) (r : Reading) → Fair r → (x : FirstPast b 0 0 r) → cut_run b 0 0 r ≡ stopped x.tokens x.bound x.place

-- where none passes, everything
abbrev pub WholeElse : Type 0
WholeElse = (b : Bounds) (r : Reading) → (FirstPast b 0 0 r → ⊥) → cut_run b 0 0 r ≡ whole 0 r

-- 7, 9 and 10 come only where a token passes
abbrev pub OnlyThere : Type 0
OnlyThere = (b : Bounds) (r : Reading) (f : Fault) → Fair r → (cut_run b 0 0 r).ending ≡ Err f → Caused f → FirstPast b 0 0 r

-- the first tokens of the unlimited rules, with all that they leave
abbrev pub ListsTheFirst : Type 0
ListsTheFirst = (b : Bounds) (r : Reading) → Begins (cut_run b 0 0 r) (whole 0 r)

-- wider bounds repeat all earlier tokens
abbrev pub Repeats : Type 0
Repeats = (b c : Bounds) (r : Reading) → Wider b c → Begins (cut_run b 0 0 r) (cut_run c 0 0 r)

-- an ending that no limit and no room causes recurs whole
abbrev pub Recurs : Type 0
Recurs = (b c : Bounds) (r : Reading) → Fair r → Wider b c → EndsOwn (cut_run b 0 0 r) → cut_run c 0 0 r ≡ cut_run b 0 0 r
