-- Document 01's table of refusals: a fault is the refusal, the place reported with it, and the part of the script that it is about.
use Rattle.std.specs.Prelude.{ℕ, ◌≡◌}
use Rattle.lex_error.specs.declared.LexError.{LexError}
use Rattle.lex_error.specs.declared.LexError.TheVariants.{UnterminatedString, UnexpectedInput, MalformedEscapeSequence, StringTooLong, MalformedIdentifier, NoLiteralRoom, NoTokenRoom, StillOpen, NotOneCharacter, TooDeep}
use Rattle.lex_error.specs.Numbers.{number_of}
use Rattle.position.specs.declared.Position.{Position}
use Rattle.fault.specs.declared.Part.{Part}
use Rattle.fault.specs.declared.Fault.{Fault}

-- a part of the script, from an offset on, so many bytes long
abbrev pub part : ℕ → ℕ → Part
part n m = record { at = n; len = m }

-- a fault that is about a part of the script
abbrev pub fault_in : LexError → Position → Part → Fault
fault_in e p q = record { error = e; place = p; part = q }

-- a fault that is about none
abbrev pub fault : LexError → Position → Fault
fault e p = fault_in e p (part 0 0)

-- the number that it tells
abbrev pub number : Fault → ℕ
number f = number_of f.error

-- 4, at the literal's start
abbrev pub unterminated_string : Position → Fault
unterminated_string p = fault UnterminatedString p

-- 5, at the start, about the character that begins nothing
abbrev pub unexpected_input : Position → Part → Fault
unexpected_input p q = fault_in UnexpectedInput p q

-- 6, at the cursor, about the escape
abbrev pub malformed_escape_sequence : Position → Part → Fault
malformed_escape_sequence p q = fault_in MalformedEscapeSequence p q

-- 7, at the literal's start
abbrev pub string_too_long : Position → Fault
string_too_long p = fault StringTooLong p

-- 8, at the identifier's start, about the identifier
abbrev pub malformed_identifier : Position → Part → Fault
malformed_identifier p q = fault_in MalformedIdentifier p q

-- 9, at the place given or, in a run, the token's start
abbrev pub no_literal_room : Position → Fault
no_literal_room p = fault NoLiteralRoom p

-- 10, at the token's start
abbrev pub no_token_room : Position → Fault
no_token_room p = fault NoTokenRoom p

-- 11, at the cursor
abbrev pub still_open : Position → Fault
still_open p = fault StillOpen p

-- 12, at the literal's start
abbrev pub not_one_character : Position → Fault
not_one_character p = fault NotOneCharacter p

-- 13, at the start of the piece before the interpolation
abbrev pub too_deep : Position → Fault
too_deep p = fault TooDeep p

-- a fault that no limit and no room causes: neither 7 nor 9 nor 10
abbrev pub Own : Fault → Type 0
Own f = (number f ≡ 7 → ⊥) × (number f ≡ 9 → ⊥) × (number f ≡ 10 → ⊥)
