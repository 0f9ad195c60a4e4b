-- The rows of the table of returns in specs/Entry.antt, document 01's examples and the decisions, computed from the definitions. Assumes nothing.
use Rattle.lex_error.specs.declared.LexError.{LexError}
use Rattle.lex_error.specs.declared.LexError.TheVariants.{NotUtf8, BadArgument, UnterminatedString, MalformedEscapeSequence, StringTooLong, NoLiteralRoom}
use Rattle.std.specs.Prelude.{Err}
use Prim.Native.Nat.{ℕ}
use mathlib.Core.Bool.{Bool, true, false}
use mathlib.Core.List.{List, [], ◌∷◌, ◌++◌}
use mathlib.Core.Path.{◌≡◌, refl}
use lib.ListN.{length}
use Rattle.basis.specs.Words.{word}
use Rattle.position.specs.Place.{place, none}
use Rattle.position.specs.declared.Position.{Position}
use Rattle.fault.specs.declared.Part.{Part}
use Rattle.fault.specs.Faults.{part, fault, fault_in}
use Rattle.chars.specs.Cursors.{cursor}
use Rattle.literal.specs.Trace.{bytes}
use Rattle.literal.specs.declared.Terminator.{Terminator}
use Rattle.literal.specs.Scans.{Scanned, accepted_as}
use Rattle.classes.specs.Marks.{lf, cr, quote, apostrophe, backtick, dollar}
use Rattle.literal.specs.Answers.{nothing, once, ending, refusal}
use Rattle.literal.proofs.Computes.{the_places, the_characters, the_readings}
use Rattle.escape.proofs.Computes.{the_escapes}
use Rattle.string_turn.proofs.Computes.{the_takes, the_acts}
use Rattle.string.specs.Entry.{string_trace, scan_of}
use Rattle.string.proofs.Computes.{the_string_rules, the_string_entry}

-- the answer to a text from offset 0, with room for a hundred bytes
abbrev scan : ℕ → Position → ℕ → List ℕ → Scanned
scan q p limit text = scan_of text 0 p q limit 100

-- the answer and the body
abbrev reads : ℕ → Position → ℕ → List ℕ → Scanned × List ℕ
reads q p limit text = (scan q p limit text, bytes (string_trace text 0 p q))

-- accepted: the body, the offset and place reached, the first place, the record, and whether `${` ended it
abbrev body : List ℕ → ℕ → Position → Position → Terminator → Bool → Scanned × List ℕ
body bs at p first r i = (accepted_as (ending (cursor at p) first r i) (length bs), bs)

-- refused: the refusal and the place reported, the offset and place reached, the record
abbrev fault_at : LexError → Position → ℕ → Position → Terminator → Scanned
fault_at e start at p r = Err (refusal (fault e start) (cursor at p) r)

-- 6: the terminator, the place, the part, and the offset reached
abbrev six : ℕ → Position → Part → ℕ → Scanned
six q p about at = Err (refusal (fault_in MalformedEscapeSequence p about) (cursor at p) (once q))

-- the source's own table, its rows in order; where its table and its code differ (`hello\` LF and the end), its code
abbrev pub Source : Type 0
Source =
    (reads quote (place 1 1) 0 (word "hello\"") ≡ body (word "hello") 6 (place 1 7) (place 1 2) nothing false)
    × (scan quote (place 1 1) 0 (word "hello" ++ (lf ∷ [])) ≡ fault_at UnterminatedString (place 1 1) 6 (place 1 6) nothing)
    × (scan quote (place 1 1) 0 (word "hello") ≡ fault_at UnterminatedString (place 1 1) 5 (place 1 7) nothing)
    × (reads quote (place 1 1) 0 (word "hello\\") ≡ body (word "hello") 6 (place 1 8) (place 1 2) (once quote) false)
    × (scan quote (place 1 1) 0 (word "hello\\" ++ (lf ∷ [])) ≡ fault_at UnterminatedString (place 1 1) 7 (place 2 1) nothing)
    × (reads backtick (place 1 1) 0 (word "hello") ≡ body (word "hello") 5 (place 1 7) (place 1 2) (once backtick) false)
    × (reads backtick (place 1 1) 0 (word "hello" ++ (lf ∷ [])) ≡ body (word "hello" ++ (lf ∷ [])) 6 (place 2 1) (place 1 2) (once backtick) false)
    × (reads backtick (place 1 1) 0 (word "hello ${") ≡ body (word "hello ") 7 (place 1 8) (place 1 2) nothing true)
    × (reads backtick (place 1 1) 0 (word " hello`") ≡ body (word " hello") 7 (place 1 8) (place 1 2) nothing false)
    × (reads backtick (place 1 1) 0 (word " hello") ≡ body (word " hello") 6 (place 1 8) (place 1 2) (once backtick) false)

-- document 01's examples
abbrev pub Examples : Type 0
Examples =
    (reads quote (place 1 1) 0 (word "a\"\"b\"") ≡ body (word "a\"b") 5 (place 1 6) (place 1 2) nothing false)
    × (reads quote (place 1 1) 0 (word "\\x41\\u00e9\"") ≡ body (word "A" ++ (0xC3 ∷ 0xA9 ∷ [])) 11 (place 1 12) (place 1 2) nothing false)
    × (scan quote (place 1 1) 0 (word "\\uD800\"") ≡ six quote (place 1 7) (part 0 6) 6)
    × (scan quote (place 1 1) 0 (word "\\U00110000\"") ≡ six quote (place 1 11) (part 0 10) 10)
    × (reads quote (place 1 1) 3 (word "abc\"") ≡ body (word "abc") 4 (place 1 5) (place 1 2) nothing false)
    × (scan quote (place 1 1) 2 (word "abc\"") ≡ fault_at StringTooLong (place 1 1) 4 (place 1 5) (once quote))
    × (scan quote (place 1 1) 2 (word "abc") ≡ fault_at UnterminatedString (place 1 1) 3 (place 1 5) nothing)
    × (scan quote (place 1 1) 1 (word "abc") ≡ fault_at StringTooLong (place 1 1) 3 (place 1 4) (once quote))
    × (reads backtick (place 1 1) 0 (word "a\\${b`") ≡ body (word "a${b") 6 (place 1 6) (place 1 2) nothing false)

-- what the three terminators differ in, and the record of each refusal
abbrev pub Kinds : Type 0
Kinds =
    (reads apostrophe (place 1 1) 0 (word "a'") ≡ body (word "a") 2 (place 1 3) (place 1 2) nothing false)
    × (scan apostrophe (place 1 1) 0 (word "a" ++ (lf ∷ [])) ≡ fault_at UnterminatedString (place 1 1) 2 (place 1 2) nothing)
    × (scan apostrophe (place 1 1) 0 (word "\\" ++ (lf ∷ [])) ≡ fault_at UnterminatedString (place 1 1) 2 (place 1 2) nothing)
    × (scan apostrophe (place 1 1) 0 (word "\"`''") ≡ fault_at UnterminatedString (place 1 1) 4 (place 1 6) nothing)
    × (reads quote (place 1 1) 0 (word "\\\"\"") ≡ body (word "\"") 3 (place 1 4) (place 1 2) nothing false)
    × (reads backtick (place 1 1) 0 (word "\\`") ≡ body (word "\\") 2 (place 1 3) (place 1 2) nothing false)
    × (reads backtick (place 1 1) 0 (word "a$b\\$`") ≡ body (word "a$b\\$") 6 (place 1 7) (place 1 2) nothing false)
    × (reads quote (place 1 1) 0 (word "${\"") ≡ body (word "${") 3 (place 1 4) (place 1 2) nothing false)
    × (scan quote (place 1 1) 0 (word "\\q\"") ≡ six quote (place 1 3) (part 0 2) 2)
    × (scan backtick (place 1 1) 1 (word "ab${") ≡ fault_at StringTooLong (place 1 1) 3 (place 1 4) nothing)
    × (scan backtick (place 1 1) 1 (word "ab`") ≡ fault_at StringTooLong (place 1 1) 3 (place 1 4) (once backtick))
    × (scan backtick (place 1 1) 1 (word "ab") ≡ fault_at StringTooLong (place 1 1) 2 (place 1 4) (once backtick))
    × (reads quote (place 1 1) 0 (word "\\r\\n\\t\\\\\"") ≡ body (cr ∷ lf ∷ 0x09 ∷ word "\\") 9 (place 1 10) (place 1 2) nothing false)
    × (reads quote (place 1 1) 0 (word "a" ++ (cr ∷ word "b\"")) ≡ body (word "a" ++ (cr ∷ word "b")) 4 (place 1 5) (place 1 2) nothing false)
    × (reads quote (place 1 1) 0 (word "\\U0010FFFF\"") ≡ body (0xF4 ∷ 0x8F ∷ 0xBF ∷ 0xBF ∷ []) 11 (place 1 12) (place 1 2) nothing false)

-- decisions D29 to D46, each with its smallest input
abbrev pub Decided : Type 0
Decided =
    (reads apostrophe (place 1 0) 0 (word "'") ≡ body [] 1 (place 1 1) none nothing false)
    × (reads backtick (place 1 0) 0 (word "`") ≡ body [] 1 (place 1 1) none nothing false)
    × (scan apostrophe (place 1 1) 0 (word "\\") ≡ fault_at UnterminatedString (place 1 1) 1 (place 1 3) nothing)
    × (reads backtick (place 1 1) 0 (word "a") ≡ body (word "a") 1 (place 1 3) (place 1 2) (once backtick) false)
    × (reads backtick (place 1 1) 0 (word "``") ≡ body (word "`") 2 (place 1 4) (place 1 3) (once backtick) false)
    × (reads backtick (place 1 1) 0 (lf ∷ []) ≡ body (lf ∷ []) 1 (place 2 1) (place 1 2) (once backtick) false)
    × (reads backtick (place 1 1) 0 (cr ∷ lf ∷ []) ≡ body (lf ∷ []) 2 (place 2 1) (place 1 2) (once backtick) false)
    × (reads quote (place 1 1) 0 (word "\\") ≡ body [] 1 (place 1 3) (place 1 2) (once quote) false)
    × (reads quote (place 1 1) 0 (word "\\" ++ (lf ∷ word " \"")) ≡ body [] 4 (place 2 2) (place 1 2) nothing false)
    × (reads backtick (place 1 1) 0 (word "${") ≡ body [] 1 (place 1 2) none nothing true)
    × (reads quote (place 1 1) 0 (word "\"") ≡ body [] 1 (place 1 2) none nothing false)
    × (reads backtick (place 1 1) 0 [] ≡ body [] 0 (place 1 2) none (once backtick) false)
    × (scan quote (place 1 1) 0 (word "\\x") ≡ six quote (place 1 3) (part 0 2) 2)
    × (scan quote (place 1 1) 0 (word "\\x\"") ≡ six quote (place 1 4) (part 0 3) 3)
    × (scan quote (place 1 1) 0 (word "\\x" ++ (lf ∷ [])) ≡ six quote (place 1 4) (part 0 3) 3)
    × (scan quote (place 1 1) 0 (word "\\x" ++ (cr ∷ lf ∷ [])) ≡ six quote (place 1 4) (part 0 3) 3)
    × (scan quote (place 1 1) 0 (word "\\" ++ (lf ∷ [])) ≡ fault_at UnterminatedString (place 1 1) 2 (place 2 1) nothing)
    × (reads quote (place 1 1) 0 (word "\\" ++ (lf ∷ word "\\")) ≡ body [] 3 (place 2 2) (place 1 2) (once quote) false)
    × (reads quote (place 1 3) 0 (word "\\" ++ (lf ∷ word "\"\" \"")) ≡ body (word "\" ") 6 (place 2 4) (place 1 4) nothing false)
    × (reads quote (place 1 1) 0 (word "\\" ++ (lf ∷ word "  \"")) ≡ body (word " ") 5 (place 2 3) (place 1 2) nothing false)
    × (scan quote (place 1 1) 0 (word "\\" ++ (lf ∷ cr ∷ lf ∷ [])) ≡ fault_at UnterminatedString (place 1 1) 4 (place 2 1) nothing)
    × (reads quote (place 1 1) 0 (word "\\" ++ (cr ∷ lf ∷ word "\"")) ≡ body [] 4 (place 2 1) (place 1 2) nothing false)
    × (reads quote (place 1 3) 0 (word "\\" ++ (lf ∷ word "\\n \"")) ≡ body (lf ∷ []) 6 (place 2 4) (place 1 4) nothing false)
    × (reads quote (place 1 65535) 0 (word "\\" ++ (lf ∷ word " \"")) ≡ body [] 4 (place 2 2) (place 1 65535) nothing false)

-- refusals of the arguments: not UTF-8, an offset past the end or inside a character, line 0, column 0 in an ordinary literal, no terminator; and 9 before any later fault
abbrev pub Arguments : Type 0
Arguments =
    (scan_of (0x80 ∷ []) 0 (place 1 1) quote 0 100 ≡ fault_at NotUtf8 (place 1 1) 0 (place 1 1) nothing)
    × (scan_of [] 1 (place 1 1) backtick 0 100 ≡ fault_at BadArgument (place 1 1) 1 (place 1 1) nothing)
    × (scan_of (0xC3 ∷ 0xA9 ∷ []) 1 (place 1 1) backtick 0 100 ≡ fault_at BadArgument (place 1 1) 1 (place 1 1) nothing)
    × (scan_of [] 0 (place 0 1) backtick 0 100 ≡ fault_at BadArgument (place 0 1) 0 (place 0 1) nothing)
    × (scan_of (word "\"") 0 (place 1 0) quote 0 100 ≡ fault_at BadArgument (place 1 0) 0 (place 1 0) nothing)
    × (scan_of [] 0 (place 1 1) dollar 0 100 ≡ fault_at BadArgument (place 1 1) 0 (place 1 1) nothing)
    × (scan_of (word "a") 0 (place 1 1) quote 0 0 ≡ fault_at NoLiteralRoom (place 1 1) 0 (place 1 1) nothing)
    × (scan_of (word "a") 0 (place 1 1) quote 0 1 ≡ fault_at UnterminatedString (place 1 1) 1 (place 1 3) nothing)

pub returns : Source × Examples × Kinds × Decided × Arguments
unfolding the_places the_characters the_readings the_escapes the_takes the_acts the_string_rules the_string_entry
returns = (
  (refl, refl, refl, refl, refl, refl, refl, refl, refl, refl),
  (refl, refl, refl, refl, refl, refl, refl, refl, refl),
  (refl, refl, refl, refl, refl, refl, refl, refl, refl, refl, refl, refl, refl, refl, refl),
  (refl, refl, refl, refl, refl, refl, refl, refl, refl, refl, refl, refl, refl, refl, refl, refl, refl, refl, refl, refl, refl, refl, refl, refl),
  (refl, refl, refl, refl, refl, refl, refl, refl),
)
