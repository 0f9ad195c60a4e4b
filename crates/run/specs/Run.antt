-- A run over a script: document 01, "Run", and what it leaves in the memory that is lent to it.
use Rattle.lex_error.specs.Numbers.{on_asked}
use Rattle.std.specs.Prelude.{ℕ, ◌/◌, List, eqb, length}
use Rattle.basis.specs.Types.{Bytes, Text}
use Rattle.basis.specs.Pick.{pick}
use Rattle.basis.specs.Store.{over}
use Rattle.position.specs.Place.{start}
use Rattle.fault.specs.Faults.{fault}
use Rattle.door.specs.RunDoor.{refuses_of}
use Rattle.entry.specs.Entries.{laid_out}
use Rattle.entry.specs.declared.Entry.{Entry}
use Rattle.reading.specs.Reading.{Reading, halts, Left, entries, literal_bytes}
use Rattle.reading.specs.CutRun.{bounds, cut_run}
use Rattle.reading.specs.declared.Bounds.{Bounds}
use Rattle.script.specs.Rules.{Rules, document01}
use Rattle.script.specs.Script.{script_of}
use Rattle.run.specs.declared.Ran.{Ran}

-- the reading of a script under a book; what is refused is refused at START
unfoldable pub run_reading : Rules → Text → Bytes → Reading
run_reading rules t book = on_asked (refuses_of t book) (script_of rules t book) (λ e. halts (fault e start))

-- what a run leaves
unfoldable pub run_of : Rules → Bounds → Text → Bytes → Left
run_of rules b t book = cut_run b 0 0 (run_reading rules t book)

-- the bounds of a run: the limit, the literal bytes lent, and as many entries as the memory lent for them has room for, so many numbers each
abbrev pub bounds_of : ℕ → ℕ → ℕ → ℕ → Bounds
bounds_of width limit literals memory = bounds limit literals (memory / width)

-- what it answers
abbrev pub ran_of : Left → Ran
ran_of l = record { ending = l.ending; listed = length (entries l.tokens); used = length (literal_bytes l.tokens) }

-- what the memory lent for literal bytes holds then: those of the tokens listed, and the old rest
abbrev pub literals_of : Left → List ℕ → List ℕ
literals_of l old = over (literal_bytes l.tokens) old

-- what the memory lent for entries holds then: those of the tokens listed, by how an entry is laid out, and the old rest
abbrev pub entries_of : (Entry → List ℕ) → Left → List ℕ → List ℕ
entries_of laid l old = over (laid_out laid (entries l.tokens)) old

-- a call of a run: its answer, and what the memory lent for literal bytes and for entries holds then
pub record Called : Type 0 where
  pub answer : Ran
  pub literals : List ℕ
  pub entries : List ℕ

abbrev pub called : Ran → Bytes → List ℕ → Called
called r ls es = record { answer = r; literals = ls; entries = es }

-- what a call holds then that was lent two memories and has left l, with its entries laid out so
abbrev pub holds : (Entry → List ℕ) → Left → Bytes → List ℕ → Called
holds laid l ls es = called (ran_of l) (literals_of l ls) (entries_of laid l es)

-- a call of the run over a script and a book by document 01's rules, within a limit and what is lent, with its entries laid out so, each so many numbers wide
abbrev pub run_call : ℕ → (Entry → List ℕ) → Text → Bytes → ℕ → Bytes → List ℕ → Called
run_call width laid script book limit ls es = holds laid (run_of document01 (bounds_of width limit (length ls) (length es)) script book) ls es

-- the same of a script and a book that were let in
abbrev pub read_call : ℕ → (Entry → List ℕ) → Text → Bytes → ℕ → Bytes → List ℕ → Called
read_call width laid script book limit ls es = holds laid (cut_run (bounds_of width limit (length ls) (length es)) 0 0 (script_of document01 script book)) ls es
