-- One turn of a run within its bounds: document 01, "9 goes before 12 and 13, these before 10; 10 only for a token read without fault. Entries and literal bytes of earlier tokens stay; beyond them nothing is written".
use Rattle.std.specs.Prelude.{ℕ, ◌+◌, Bool, true, false, List, [], ◌≡◌, ltb, length, Err, Ok}
use Rattle.std.proofs.lemmas.List.Edits.{sets}
use Rattle.basis.specs.Pick.{pick}
use Rattle.position.specs.declared.Position.{Position}
use Rattle.fault.specs.Faults.{no_token_room}
use Rattle.entry.specs.Kinds as kind
use Rattle.entry.specs.Entries.{entry}
use Rattle.entry.specs.declared.Entry.{Entry}
use Rattle.literal.specs.declared.End.{End}
use Rattle.literal.specs.Scans.{Scanned}
use Rattle.find.specs.declared.Opener.{Opener}
use Rattle.reading.specs.Reading.{kept_part}
use Rattle.reading.specs.CutRun.{scanned, cut_run}
use Rattle.reading.specs.declared.Bounds.{Bounds}
use Rattle.chars.specs.declared.cursor.Cursor.{Cursor}
use Rattle.token.specs.Tokens as Tokens
use Rattle.script.specs.Counts.{passed_of}
use Rattle.script.specs.States.{state, moved_to, behind_of, Fits}
use Rattle.script.specs.Steps.{Step, on, last, nothing, token, literal, packed_of}
use Rattle.script.specs.declared.State.{State}
use Rattle.script.specs.declared.Crossed.{Crossed}
use Rattle.turn.specs.declared.Next.{Next}
use Rattle.turn.specs.declared.Next.TheVariants.{On, Listed, Over}
use Rattle.turn.specs.declared.Turned.{Turned}

-- an entry, where there is room for one more than n; else 10 at the token's place
abbrev pub listed_within : Bounds → ℕ → Entry → Next
listed_within b n e = pick (ltb n b.entries) (Listed e) (Over (Err (no_token_room e.place)))

-- a literal that is accepted goes on with its length; one that is refused stops the run
abbrev pub on_scanned : Scanned → (ℕ → Next) → Next
on_scanned (Ok (e, m)) next = next m
on_scanned (Err f) next = Over (Err f.fault)

-- what a step comes to, where n entries are listed and so many literal bytes used
unfoldable pub step_next : Bounds → ℕ → ℕ → Step → Next
step_next b n used (on nothing s) = On
step_next b n used (on (token k) s) = listed_within b n (kept_part k).entry
step_next b n used (on (literal k t) s) = on_scanned (scanned b used k.start t) (λ m. listed_within b n (entry k.kind k.start.place used m))
step_next b n used (last r) = Over (cut_run b n used r).ending

-- where a step leads
unfoldable pub step_state : State → Step → State
step_state s (on note s') = s'
step_state s (last r) = s

-- the literal bytes of a step
unfoldable pub step_bytes : Step → List ℕ
step_bytes (on note s) = packed_of note
step_bytes (last r) = []

-- where a run stands behind a turn, how many literal bytes are used then, and what the turn came to
pub record Went : Type 0 where
  pub state : State
  pub used : ℕ
  pub next : Next

abbrev pub went : State → ℕ → Next → Went
went s used x = record { state = s; used = used; next = x }

-- a run that is over stays where it stands; else it goes where the step leads
abbrev pub turned : State → ℕ → Step → Next → Went
turned s used x (Over e) = went s used (Over e)
turned s used x On = went (step_state s x) (used + length (step_bytes x)) On
turned s used x (Listed e) = went (step_state s x) (used + length (step_bytes x)) (Listed e)

-- the turn of a step
unfoldable pub turn_of : Bounds → ℕ → ℕ → State → Step → Went
turn_of b n used s x = turned s used x (step_next b n used x)

-- the literal bytes behind it: those of what is listed, behind those before; and the old rest
abbrev pub literals_then : List ℕ → ℕ → Step → Next → List ℕ
literals_then old used x (Over e) = old
literals_then old used x On = sets old used (step_bytes x)
literals_then old used x (Listed e) = sets old used (step_bytes x)

unfoldable pub literals_behind : Bounds → ℕ → ℕ → Step → List ℕ → List ℕ
literals_behind b n used x old = literals_then old used x (step_next b n used x)

-- where a run stands behind what a turn has passed: the open braces are counted only behind what is listed
abbrev pub led_by : State → Crossed → Cursor → ℕ → Next → Went
led_by s what to used (Over e) = went s used (Over e)
led_by s what to used On = went (moved_to to s) used On
led_by s what to used (Listed e) = went (behind_of what to s) used (Listed e)

abbrev pub led : State → Turned → Went
led s r = led_by s (passed_of r.piece r.token) r.to r.used r.next

-- a turn leads a run there, and there is an interpolation left where it opens one
abbrev pub Leads : State → Turned → Went → Type 0
Leads s r w = (led s r ≡ w) × Fits (passed_of r.piece r.token) s

-- a turn r is the turn of a step, within bounds, where n entries are listed and so many literal bytes used, and leaves new in the memory that was old
pub record Turns (b : Bounds) (n used : ℕ) (s : State) (x : Step) (r : Turned) (old new : List ℕ) : Type 0 where
  pub leads : Leads s r (turn_of b n used s x)
  pub literals : new ≡ literals_behind b n used x old

-- of every run with so many interpolations open
abbrev pub Deep : ℕ → (State → Type 0) → Type 0
Deep level P = (at : Cursor) (braces : List ℕ) (due : Bool) → P (state at level braces due)

-- of every run at a cursor
abbrev pub At : Cursor → (State → Type 0) → Type 0
At at P = (level : ℕ) (braces : List ℕ) (due : Bool) → P (state at level braces due)

-- of every run at a cursor, with so many interpolations open and a text due or not, whatever braces are open
abbrev pub Standing : Cursor → ℕ → Bool → (State → Type 0) → Type 0
Standing at level due P = (braces : List ℕ) → P (state at level braces due)

-- a literal that is listed, with its length: a piece of text that `${` ends opens an interpolation
unfoldable pub listed_as : Opener → End → Position → ℕ → ℕ → Turned
listed_as o e p m used =
    pick e.interpolated (record { piece = true; token = Tokens.InterpolatedString; to = e.cursor; used = used + m; next = Listed (entry kind.interpolated p used m) })
    (record { piece = false; token = Tokens.StringConstant; to = e.cursor; used = used + m; next = Listed (entry o.kind p used m) })
