-- Demand 3, limits only cut: "Limits only cut. A run lists exactly the tokens of the unlimited rules before the first token whose reading, finished or not, passes a limit or room where document 01 tests it; larger limits repeat all earlier tokens, same bytes and positions, and an ending not caused by a limit or room recurs whole." The statements; their proofs are in proofs/Limits.antt and proofs/ShuttingRuns.antt, and specs/RunCalls.antt carries them to the functions.
use Rattle.std.specs.Prelude.{ℕ, List, [], ◌++◌, ◌≡◌, length, Err}
use Rattle.position.specs.declared.Position.{Position}
use Rattle.fault.specs.declared.Fault.{Fault}
use Rattle.literal.specs.Trace.{Trace}
use Rattle.reading.specs.Reading.{Token, Reading, finishes, reads, Left, entries, literal_bytes, whole}
use Rattle.reading.specs.declared.Bounds.{Bounds}
use Rattle.reading.specs.Limits.{Wider, Begins, EndsOwn, Caused, refused_by, FirstPast}
use Rattle.script.specs.Rules.{document01}
use Rattle.run.specs.Run.{run_reading, run_of}

-- ---- who takes part
-- a run over one script under one book: what it leaves within its bounds, which are the string limit, the literal room and the token room
abbrev pub Run : Type 0
Run = Bounds → Left

-- runs over all scripts under all books
abbrev pub Runs : Type 0
Runs = List ℕ → List ℕ → Run

-- ours, in the words of the contracts of `run` and `stew_run`
abbrev pub our_runs : Runs
our_runs script book b = run_of document01 b script book

-- ---- the words of the demand
-- Four of them stand in crate reading. `Wider b c`: the bounds c are nowhere stricter than b. `Begins l m`: what l lists, with its literal bytes, m lists first. `EndsOwn l`: no limit and no room causes its ending. `Caused f`: the fault is 7, 9 or 10.
-- what the unlimited rules leave of a reading: all its tokens, their literal bytes, and how it ends
abbrev pub unlimited : Reading → Left
unlimited r = whole 0 r

-- the first token whose reading, finished or not, passes a limit or room where document 01 tests it: what the tokens before it leave, each its entry and its literal bytes; what it passes; and the place where it starts
abbrev pub FirstThatPasses : Bounds → Reading → Type 0
FirstThatPasses b r = FirstPast b 0 0 r

-- what is before it, exactly: those tokens, with their entries and their literal bytes; the run ends there with document 01's refusal at the place where it starts, 7 for the string limit, 9 for the literal room and 10 for the token room
abbrev pub before : {b : Bounds} {r : Reading} → FirstThatPasses b r → Left
before x = record { tokens = x.tokens; ending = Err (refused_by x.bound x.place) }

-- ---- the demand, of any run over what a script reads as by the unlimited rules
pub record LimitsOnlyCut (r : Reading) (run : Run) : Type 0 where
  -- "A run lists exactly the tokens of the unlimited rules
  pub lists : (b : Bounds) → Begins (run b) (unlimited r)
  -- before the first token whose reading, finished or not, passes a limit or room where document 01 tests it;"
  pub stops : (b : Bounds) (x : FirstThatPasses b r) → run b ≡ before x
  -- 7, 9 and 10 come nowhere else
  pub only_there : (b : Bounds) (f : Fault) → (run b).ending ≡ Err f → Caused f → FirstThatPasses b r
  -- and where no token passes, all is as by the unlimited rules
  pub else_all : (b : Bounds) → (FirstThatPasses b r → ⊥) → run b ≡ unlimited r
  -- "larger limits repeat all earlier tokens, same bytes and positions,
  pub repeats : (b c : Bounds) → Wider b c → Begins (run b) (run c)
  -- and an ending not caused by a limit or room recurs whole."
  pub recurs : (b c : Bounds) → Wider b c → EndsOwn (run b) → run c ≡ run b

-- of every script under every book
abbrev pub Meets : Runs → Type 0
Meets runs = (script book : List ℕ) → LimitsOnlyCut (run_reading document01 script book) (runs script book)

-- our runs meet it
abbrev pub OursMeet : Type 0
OursMeet = Meets our_runs

-- and no other run does: whatever meets it leaves what ours leaves
abbrev pub NoOther : Type 0
NoOther = (script book : List ℕ) (run : Run) → LimitsOnlyCut (run_reading document01 script book) run → (b : Bounds) → run b ≡ our_runs script book b

-- ---- what the demand shuts out
-- runs that no limit and no room stops: by stops
abbrev pub NeverStops : Runs → Type 0
NeverStops runs = (script book : List ℕ) (b : Bounds) → EndsOwn (runs script book b)

-- runs that a limit or a room stops, and that have forgotten the literal bytes of the tokens listed: by stops
abbrev pub ForgetsBytes : Runs → Type 0
ForgetsBytes runs = (script book : List ℕ) (b : Bounds) (f : Fault) → (runs script book b).ending ≡ Err f → Caused f → literal_bytes (runs script book b).tokens ≡ []

-- a script that is one literal
pub record OneLiteral (script book : List ℕ) : Type 0 where
  pub token : Token
  pub trace : Trace
  pub end : Position
  pub is_read : run_reading document01 script book ≡ reads token trace (finishes end)

-- runs that read the first literal of a script and fake the rest, of which they know how long it is: by else_all, of two scripts
abbrev pub FakesTheRest : Runs → (List ℕ → ℕ → List ℕ → Bounds → Left) → Type 0
FakesTheRest runs fake = (literal rest book : List ℕ) (b : Bounds) → OneLiteral literal book → runs (literal ++ rest) book b ≡ fake literal (length rest) book b

-- runs that miscount the entries of some script under some book within some bounds: by stops and else_all
pub record Miscounts (runs : Runs) : Type 0 where
  pub script : List ℕ
  pub book : List ℕ
  pub bounds : Bounds
  pub off : length (entries (runs script book bounds).tokens) ≡ length (entries (our_runs script book bounds).tokens) → ⊥

abbrev pub ShutsOutRuns : Type 0
ShutsOutRuns =
    (runs : Runs) → Meets runs
    → (NeverStops runs → ⊥)
    × (ForgetsBytes runs → ⊥)
    × ((fake : List ℕ → ℕ → List ℕ → Bounds → Left) → FakesTheRest runs fake → ⊥)
    × (Miscounts runs → ⊥)
