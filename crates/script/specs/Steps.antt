-- One step of a run by the unlimited rules: document 01, "Run".
use Rattle.std.specs.Prelude.{ℕ, List, [], eqb, leb, length, Err, Ok}
use Rattle.basis.specs.Types.{Bytes, Text}
use Rattle.basis.specs.Pick.{pick, isnt}
use Rattle.position.specs.Place.{advanced}
use Rattle.utf8.specs.Table.{chars}
use Rattle.classes.specs.Marks.{hash, apostrophe}
use Rattle.chars.specs.Cursors.{cursor}
use Rattle.chars.specs.declared.cursor.Cursor.{Cursor}
use Rattle.fault.specs.Faults.{still_open, not_one_character, too_deep}
use Rattle.entry.specs.Kinds as Kind
use Rattle.entry.specs.declared.kinds.Kind.{Kind as TokenKind}
use Rattle.literal.specs.declared.End.{End}
use Rattle.literal.specs.Trace.{Trace, bytes, final, Outcome, good, bad}
use Rattle.raw.specs.Raw.{read_of}
use Rattle.string.specs.Reading.{string_reading}
use Rattle.find.specs.Find.{opens_text, find_of}
use Rattle.find.specs.declared.Opener.{Opener}
use Rattle.find.specs.declared.Found.{Found}
use Rattle.find.specs.declared.Found.TheVariants as found
use Rattle.reading.specs.Reading as Reading
use Rattle.reading.specs.Reading.{Token, Reading, finishes, halts, spoils, lists, reads}
use Rattle.script.specs.Rules.{Rules}
use Rattle.script.specs.States.{moved_to, interpolating, behind}
use Rattle.script.specs.declared.State.{State}
use Rattle.script.specs.Verdicts.{Verdict, all_fine}

-- what a step puts in front of the reading of the rest: nothing; a token that is a part of the script; or a literal
pub data Note : Type 0 where
  nothing : Note
  token : Token → Note
  literal : Token → Trace → Note

abbrev pub noted : Note → Reading → Reading
noted nothing r = r
noted (token k) r = lists k r
noted (literal k t) r = reads k t r

-- the literal bytes of it
abbrev pub packed_of : Note → List ℕ
packed_of nothing = []
packed_of (token k) = []
packed_of (literal k t) = bytes t

-- one step: on to a state, with a note; or the last one, which has the rest of the reading
pub data Step : Type 0 where
  on : Note → State → Step
  last : Reading → Step

-- the reading of a literal from behind what opens it
unfoldable pub literal_trace : Rules → Text → Opener → Cursor → Trace
literal_trace rules t o from = pick (eqb o.terminator hash) (read_of rules.newlines t from 0) (string_reading rules.white t o.terminator from)

-- what is to be said of a literal that its scan accepts: 11 at the cursor where it is still open; 13 at its start where `${` ends it and sixteen interpolations are open; 12 at its start where a `'` literal is not one character
unfoldable pub verdict_of : Opener → ℕ → Cursor → End → Bytes → Verdict
verdict_of o level from e body =
    pick (isnt (eqb e.on_record.times 0)) (Err (still_open e.cursor.place))
    (pick e.interpolated (pick (leb 16 level) (Err (too_deep from.place)) all_fine)
    (pick (eqb o.terminator apostrophe) (pick (eqb (length (chars body)) 1) all_fine (Err (not_one_character from.place))) all_fine))

-- where a literal starts: at its opener, which stands where the run does; a text that goes on, behind its `}`
abbrev pub start_of : Cursor → State → Cursor
start_of from s = cursor s.cursor.at from.place

-- a literal that is listed: a piece of text that `${` ends opens an interpolation
unfoldable pub listed_of : Opener → Cursor → Trace → End → State → Step
listed_of o from t e s =
    pick e.interpolated (on (literal (Reading.token Kind.interpolated (start_of from s) e.cursor) t) (interpolating e.cursor s))
    (on (literal (Reading.token o.kind (start_of from s) e.cursor) t) (moved_to e.cursor s))

abbrev pub on_verdict : Opener → Cursor → Trace → End → State → Verdict → Step
on_verdict o from t e s (Ok u) = listed_of o from t e s
on_verdict o from t e s (Err f) = last (spoils (start_of from s) t f)

-- what comes of a literal's reading
abbrev pub on_end : Opener → Cursor → Trace → State → Outcome → Step
on_end o from t s (bad f) = last (spoils (start_of from s) t f.fault)
on_end o from t s (good e) = on_verdict o from t e s (verdict_of o s.level from e (bytes t))

-- a literal from behind what opens it
unfoldable pub literal_step : Rules → Text → Opener → Cursor → State → Step
literal_step rules t o from s = on_end o from (literal_trace rules t o from) s (final (literal_trace rules t o from))

-- where the script ends: 11 at the cursor where an interpolation is open
unfoldable pub end_step : State → Step
end_step s = last (pick (eqb s.level 0) (finishes s.cursor.place) (halts (still_open s.cursor.place)))

-- a token that is a part of the script, up to a cursor
abbrev pub part_step : TokenKind → ℕ → Cursor → State → Step
part_step k w c s = on (token (Reading.token k (cursor s.cursor.at (advanced s.cursor.place)) c)) (behind w c s)

-- what comes of what begins here
abbrev pub on_found : Rules → Text → State → Found → Step
on_found rules t s (found.White c) = on nothing (moved_to c s)
on_found rules t s (found.Part c k w) = part_step k w c s
on_found rules t s (found.Literal from o) = literal_step rules t o from s
on_found rules t s (found.Wrong f) = last (halts f)
on_found rules t s found.End = end_step s

-- one step: a text that is due goes on from its `}`; else what begins here
unfoldable pub step_of : Rules → Text → Bytes → State → Step
step_of rules t book s = pick s.due (literal_step rules t opens_text s.cursor s) (on_found rules t s (find_of rules.white t book s.cursor))
