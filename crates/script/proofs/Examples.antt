-- Worked examples of a script's reading, under one theorem: document 01's listing, and the readings of docs/DECISIONS.md. Assumes nothing.
use Rattle.lex_error.specs.declared.LexError.TheVariants.{NoLiteralRoom, NoTokenRoom, NotOneCharacter, StillOpen, StringTooLong, UnterminatedString}
use Rattle.std.specs.Prelude.{Err, Ok}
use Prim.Native.Nat.{ℕ}
use Prim.Native.String.{String}
use mathlib.Core.List.{List, [], ◌∷◌}
use mathlib.Core.Path.{◌≡◌, refl}
use Rattle.basis.specs.Words.{word}
use Rattle.position.specs.declared.Position.{Position}
use Rattle.position.specs.Place.{place}
use Rattle.chars.specs.declared.cursor.Cursor.{Cursor}
use Rattle.chars.specs.Cursors.{cursor}
use Rattle.fault.specs.Faults.{fault}
use Rattle.literal.proofs.Computes.{the_places, the_characters, the_readings}
use Rattle.escape.proofs.Computes.{the_escapes}
use Rattle.string_turn.proofs.Computes.{the_takes, the_acts}
use Rattle.string.proofs.Computes.{the_string_rules}
use Rattle.raw.proofs.Computes.{the_raw_rules}
use Rattle.entry.specs.Kinds as Kind
use Rattle.entry.specs.declared.Entry.{Entry}
use Rattle.entry.specs.Entries.{entry}
use Rattle.find.specs.Find.{opens_string}
use Rattle.find.specs.declared.Opener.{Opener}
use Rattle.reading.specs.Endings.{Ending}
use Rattle.reading.specs.Reading.{Token, token, finishes, reads, Left, entries, literal_bytes, whole}
use Rattle.reading.specs.CutRun.{bounds, cut_run}
use Rattle.script.specs.Rules.{document01}
use Rattle.script.specs.Steps.{literal_trace}
use Rattle.script.specs.Script.{script_of}
use Rattle.script.proofs.Computes.{the_listed, the_symbols, the_names, the_books, the_finds, the_steps, the_runs}

-- a script under the empty book: what a run leaves of it where nothing cuts it
abbrev Lists : Left → List Entry → String → Ending → Type 0
Lists l es literals ending = (entries l.tokens ≡ es) × (literal_bytes l.tokens ≡ word literals) × (l.ending ≡ ending)

abbrev pub Leaves : String → List Entry → String → Ending → Type 0
Leaves script = Lists (whole 0 (script_of document01 (word script) (0 ∷ 0 ∷ [])))

-- and within bounds
abbrev pub LeavesWithin : ℕ → ℕ → ℕ → String → List Entry → String → Ending → Type 0
LeavesWithin limit literals room script = Lists (cut_run (bounds limit literals room) 0 0 (script_of document01 (word script) (0 ∷ 0 ∷ [])))

-- a script that is one literal: the token that it is, and what opens it
abbrev pub ReadsOne : String → Token → Opener → Cursor → Position → Type 0
ReadsOne script k o from end = script_of document01 (word script) (0 ∷ 0 ∷ []) ≡ reads k (literal_trace document01 (word script) o from) (finishes end)

pub record Worked : Type 0 where
  -- document 01's listing
  pub listing : Leaves "let d = #\"a\"b\"#;\n" (entry Kind.keyword (place 1 1) 0 3 ∷ entry Kind.name (place 1 5) 4 1 ∷ entry Kind.symbol (place 1 7) 6 1 ∷ entry Kind.raw (place 1 9) 0 3 ∷ entry Kind.symbol (place 1 16) 15 1 ∷ []) "a\"b" (Ok (place 2 0))
  -- the run's end adds no column
  pub nothing : Leaves "" ([]) "" (Ok (place 1 0))
  -- a number run
  pub number : Leaves "12" (entry Kind.number (place 1 1) 0 2 ∷ []) "" (Ok (place 1 2))
  -- a text with a block in it: its second piece starts at the `}`
  pub interpolation : Leaves "`a${b}c`" (entry Kind.interpolated (place 1 1) 0 1 ∷ entry Kind.symbol (place 1 4) 3 1 ∷ entry Kind.name (place 1 5) 4 1 ∷ entry Kind.symbol (place 1 6) 5 1 ∷ entry Kind.text (place 1 6) 1 1 ∷ []) "ac" (Ok (place 1 8))
  -- `//` to before LF
  pub line : Leaves "//a\nb" (entry Kind.comment (place 1 1) 0 3 ∷ entry Kind.name (place 2 1) 4 1 ∷ []) "" (Ok (place 2 1))
  -- `#` before `{` is a symbol
  pub map : Leaves "#{" (entry Kind.symbol (place 1 1) 0 2 ∷ []) "" (Ok (place 1 2))
  -- the scan's rule for `'` holds right after the opener
  pub char : Leaves "''''" (entry Kind.char (place 1 1) 0 1 ∷ []) "'" (Ok (place 1 4))
  -- 12 at its start
  pub no_char_lem : Leaves "''" ([]) "" (Err (fault NotOneCharacter (place 1 1)))
  -- 4 where the scan says 4
  pub cut_char : Leaves "'''" ([]) "" (Err (fault UnterminatedString (place 1 1)))
  pub cut_string : Leaves "\"" ([]) "" (Err (fault UnterminatedString (place 1 1)))
  -- 11 at the cursor that the scan reached
  pub open_text : Leaves "`" ([]) "" (Err (fault StillOpen (place 1 2)))
  pub open_line : Leaves "`\n" ([]) "" (Err (fault StillOpen (place 2 1)))
  pub open_raw : Leaves "#\"" ([]) "" (Err (fault StillOpen (place 1 2)))
  pub open_comment : Leaves "/*" ([]) "" (Err (fault StillOpen (place 1 2)))
  -- a lone backslash leaves `"` open
  pub open_string : Leaves "\"a\\" ([]) "" (Err (fault StillOpen (place 1 4)))
  -- an interpolation that is open: the run's cursor, white space skipped, no column added
  pub open_block : Leaves "`${ " (entry Kind.interpolated (place 1 1) 0 0 ∷ entry Kind.symbol (place 1 3) 2 1 ∷ []) "" (Err (fault StillOpen (place 1 4)))
  -- a text that is due at the end
  pub open_piece : Leaves "`${}" (entry Kind.interpolated (place 1 1) 0 0 ∷ entry Kind.symbol (place 1 3) 2 1 ∷ entry Kind.symbol (place 1 4) 3 1 ∷ []) "" (Err (fault StillOpen (place 1 5)))
  -- one literal
  pub one_literal : ReadsOne "\"a\"" (token Kind.string (cursor 0 (place 1 1)) (cursor 3 (place 1 3))) opens_string (cursor 1 (place 1 1)) (place 1 3)
  -- two literals, with room for both
  pub two_literals : LeavesWithin 0 2 2 "\"a\" \"b\"" (entry Kind.string (place 1 1) 0 1 ∷ entry Kind.string (place 1 5) 1 1 ∷ []) "ab" (Ok (place 1 7))
  pub two_others : LeavesWithin 0 2 2 "\"a\" \"c\"" (entry Kind.string (place 1 1) 0 1 ∷ entry Kind.string (place 1 5) 1 1 ∷ []) "ac" (Ok (place 1 7))
  -- the second passes the string limit, the literal room, or the token room
  pub too_long : LeavesWithin 1 9 2 "\"a\" \"bc\"" (entry Kind.string (place 1 1) 0 1 ∷ []) "a" (Err (fault StringTooLong (place 1 5)))
  pub no_bytes_left : LeavesWithin 0 1 2 "\"a\" \"b\"" (entry Kind.string (place 1 1) 0 1 ∷ []) "a" (Err (fault NoLiteralRoom (place 1 5)))
  pub no_entry_left : LeavesWithin 0 2 1 "\"a\" \"b\"" (entry Kind.string (place 1 1) 0 1 ∷ []) "a" (Err (fault NoTokenRoom (place 1 5)))

pub worked : Worked
unfolding the_places the_characters the_readings the_escapes the_takes the_acts the_string_rules the_raw_rules the_listed the_symbols the_names the_books the_finds the_steps the_runs
worked = record {
  listing = (refl, refl, refl);
  nothing = (refl, refl, refl);
  number = (refl, refl, refl);
  interpolation = (refl, refl, refl);
  line = (refl, refl, refl);
  map = (refl, refl, refl);
  char = (refl, refl, refl);
  no_char_lem = (refl, refl, refl);
  cut_char = (refl, refl, refl);
  cut_string = (refl, refl, refl);
  open_text = (refl, refl, refl);
  open_line = (refl, refl, refl);
  open_raw = (refl, refl, refl);
  open_comment = (refl, refl, refl);
  open_string = (refl, refl, refl);
  open_block = (refl, refl, refl);
  open_piece = (refl, refl, refl);
  one_literal = refl;
  two_literals = (refl, refl, refl);
  two_others = (refl, refl, refl);
  too_long = (refl, refl, refl);
  no_bytes_left = (refl, refl, refl);
  no_entry_left = (refl, refl, refl);
}
