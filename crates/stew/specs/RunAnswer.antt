-- The run through C: what `stew_run` returns, and what the three slices lent to it hold then.
use Rattle.lex_error.specs.Numbers.{on_asked, number_of}
use Rattle.std.specs.Prelude.{ℕ, List, [], ◌∷◌, eqb, ltb, length}
use Rattle.basis.specs.Types.{Bytes, Text}
use Rattle.basis.specs.Pick.{pick}
use Rattle.basis.specs.Store.{over}
use Rattle.position.specs.Place.{line_number, column_number}
use Rattle.numbers.specs.Spell.{spelled}
use Rattle.reading.specs.Reading.{Left, entries, literal_bytes}
use Rattle.reading.specs.Told.{ending_number, ending_place, ending_part}
use Rattle.reading.specs.Endings.{Ending}
use Rattle.door.specs.RunDoor.{refuses_of}
use Rattle.script.specs.Rules.{document01}
use Rattle.run.specs.Run.{bounds_of, run_of, literals_of, entries_of}
use Rattle.run.specs.Bytes.{entry_bytes}

-- the seven numbers: number, line, position, entries listed, literal bytes used, offset and length of the part
unfoldable pub tells_of : Ending → ℕ → ℕ → List ℕ
tells_of e listed used =
    ending_number e ∷ line_number (ending_place e) ∷ column_number (ending_place e) ∷ listed ∷ used ∷ (ending_part e).at ∷ (ending_part e).len ∷ []

-- those of what a run leaves
abbrev pub tells : Left → List ℕ
tells l = tells_of l.ending (length (entries l.tokens)) (length (literal_bytes l.tokens))

-- the number for too short an answer: 2, 1 or 14 where one applies, else 9
unfoldable pub run_short : Text → Bytes → ℕ
run_short script book = on_asked (refuses_of script book) 9 number_of

-- a call: the number returned, and what the three slices hold then
pub record CCalled : Type 0 where
  pub returned : ℕ
  pub literals : List ℕ
  pub entries : List ℕ
  pub answer : List ℕ

abbrev pub c_called : ℕ → Bytes → List ℕ → List ℕ → CCalled
c_called r ls es answer = record { returned = r; literals = ls; entries = es; answer = answer }

-- what a call holds then that was lent three slices and has left l: 0 for the end, or the stop's number; the literal bytes, the entries, twenty bytes each, and seven numbers of four bytes, each in front of the old rest
abbrev pub c_holds : Left → Bytes → List ℕ → List ℕ → CCalled
c_holds l ls es answer = c_called (ending_number l.ending) (literals_of l ls) (entries_of entry_bytes l es) (over (spelled 4 (tells l)) answer)

-- what the run leaves in the slices lent
abbrev pub leaves : Text → Bytes → ℕ → Bytes → List ℕ → Left
leaves script book limit ls es = run_of document01 (bounds_of 20 limit (length ls) (length es)) script book

-- a call of `stew_run`; an answer of less than 28 bytes leaves all as it was
unfoldable pub stew_run_of : Text → Bytes → ℕ → Bytes → List ℕ → List ℕ → CCalled
stew_run_of script book limit ls es answer =
    pick (ltb (length answer) 28) (c_called (run_short script book) ls es answer) (c_holds (leaves script book limit ls es) ls es answer)
