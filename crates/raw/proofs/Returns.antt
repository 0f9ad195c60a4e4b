-- The table of returns in specs/Entries.antt, row by row; then limits and rooms, and the arguments that are refused. Assumes nothing.
use Rattle.lex_error.specs.declared.LexError.TheVariants.{BadArgument, NoLiteralRoom, NotUtf8, StringTooLong}
use Rattle.std.specs.Prelude.{Err}
use Prim.Native.Nat.{ℕ, zero, suc}
use mathlib.Core.List.{List, [], ◌∷◌}
use mathlib.Core.Path.{◌≡◌, refl}
use Rattle.basis.specs.Words.{word}
use Rattle.position.specs.declared.Position.{Position}
use Rattle.position.specs.Place.{none, given}
use Rattle.chars.specs.Cursors.{cursor}
use Rattle.fault.specs.Faults.{part, fault, unterminated_string, unexpected_input}
use Rattle.fault.specs.declared.Fault.{Fault}
use Rattle.literal.specs.Trace.{Trace, bytes, final, good, bad}
use Rattle.literal.proofs.Computes.{the_places, the_characters, the_readings}
use Rattle.literal.specs.declared.Terminator.{Terminator}
use Rattle.literal.specs.Scans.{Scanned, accepted_as}
use Rattle.classes.specs.Marks.{quote, hash, lf}
use Rattle.literal.specs.Answers.{nothing, refusal}
use Rattle.raw.specs.Raw.{as_source, hashes_of, raw_end}
use Rattle.raw.specs.Entries.{parse_trace, resume_trace, resume_of}
use Rattle.raw.proofs.Computes.{the_raw_rules, the_raw_entries}

-- a scan from the start of a text, with the Rust's hash count, at a place; and at 1:1
abbrev from : Position → ℕ → List ℕ → Trace
from p zero t = parse_trace as_source t 0 p
from p (suc k) t = resume_trace as_source t 0 p (suc k)

abbrev scans : ℕ → List ℕ → Trace
scans k t = from (given 1 1) k t

-- it is accepted with a body, and ends so; or it is refused
abbrev Gives : Trace → List ℕ → ℕ → Position → Position → Terminator → Type 0
Gives t bs at p first r = (bytes t ≡ bs) × (final t ≡ good (raw_end (cursor at p) first r))

abbrev Fails : Trace → Fault → ℕ → Position → Type 0
Fails t f at p = final t ≡ bad (refusal f (cursor at p) nothing)

pub entered-returns :
    Gives (scans 0 (word "\"hello\"#")) (word "hello") 8 (given 1 9) (given 1 3) nothing
    × Gives (scans 0 (word "\"hello")) (word "hello") 6 (given 1 7) (given 1 3) (hashes_of 1)
    × Gives (scans 0 (word "###\"hello")) (word "hello") 9 (given 1 10) (given 1 6) (hashes_of 4)
    × Gives (scans 0 (word "\" \"hello\" \"")) (word " \"hello\" ") 11 (given 1 12) (given 1 3) (hashes_of 1)
    × Gives (scans 0 (word "\"\"hello\"\"#")) (word "\"hello\"") 10 (given 1 11) (given 1 3) nothing
    × Gives (scans 0 (word "#\"hello #\"# world\"##")) (word "hello #\"# world") 20 (given 1 21) (given 1 4) nothing
    × Gives (scans 0 (word "\"R\"#")) (word "R") 4 (given 1 5) (given 1 3) nothing
    × Gives (scans 0 (word "\"\\x52\"#")) (word "\\x52") 7 (given 1 8) (given 1 3) nothing
    × Gives (scans 0 (word "\"a\"b\"#;")) (word "a\"b") 6 (given 1 7) (given 1 3) nothing
    × Fails (scans 0 (word "a")) (unexpected_input (given 1 1) (part 0 1)) 1 (given 1 1)
    × Fails (scans 0 (hash ∷ 0xC3 ∷ 0xA9 ∷ [])) (unexpected_input (given 1 1) (part 1 2)) 3 (given 1 2)
    × Fails (scans 0 []) (unterminated_string (given 1 1)) 0 (given 1 1)
    × Fails (scans 0 (word "#")) (unterminated_string (given 1 1)) 1 (given 1 2)
unfolding the_places the_characters the_readings the_raw_rules the_raw_entries
entered-returns = (
  (refl, refl),
  (refl, refl),
  (refl, refl),
  (refl, refl),
  (refl, refl),
  (refl, refl),
  (refl, refl),
  (refl, refl),
  (refl, refl),
  refl,
  refl,
  refl,
  refl,
)

pub resumed-returns :
    Gives (scans 2 (word "\"#\"##")) (word "\"#") 5 (given 1 6) (given 1 2) nothing
    × Gives (scans 1 (word "ab\"")) (word "ab") 3 (given 1 4) (given 1 2) (hashes_of 1)
    × Gives (scans 1 (word "\"#")) [] 2 (given 1 3) (given 1 2) nothing
    × Gives (scans 1 (word "\"\"#")) (word "\"") 3 (given 1 4) (given 1 2) nothing
    × Gives (scans 1 []) [] 0 (given 1 1) none (hashes_of 1)
    × Gives (scans 1 (lf ∷ [])) (lf ∷ []) 1 (given 2 0) (given 2 0) (hashes_of 1)
    × Gives (scans 1 (0xC3 ∷ 0xA9 ∷ [])) (0xC3 ∷ 0xA9 ∷ []) 2 (given 1 2) (given 1 2) (hashes_of 1)
    × Gives (from (given 1 3) 1 (quote ∷ lf ∷ word "x\"#")) (quote ∷ lf ∷ word "x") 5 (given 1 8) (given 1 4) nothing
    × Gives (from (given 1 3) 1 (lf ∷ word "x\"#")) (lf ∷ word "x") 4 (given 2 3) (given 2 0) nothing
unfolding the_places the_characters the_readings the_raw_rules the_raw_entries
resumed-returns = ((refl, refl), (refl, refl), (refl, refl), (refl, refl), (refl, refl), (refl, refl), (refl, refl), (refl, refl), (refl, refl))

-- a limit and a room: the room is asked first, a quote that may still close is not yet bytes, and at the closing hash no limit is tested
abbrev within : ℕ → ℕ → List ℕ → Scanned
within limit room t = resume_of as_source t 0 (given 1 1) 1 limit room

pub cut-returns :
    (within 1 1 (0xC3 ∷ 0xA9 ∷ []) ≡ Err (refusal (fault NoLiteralRoom (given 1 1)) (cursor 0 (given 1 1)) nothing))
    × (within 1 2 (0xC3 ∷ 0xA9 ∷ []) ≡ Err (refusal (fault StringTooLong (given 1 1)) (cursor 2 (given 1 2)) (hashes_of 1)))
    × (within 0 0 (word "\"") ≡ accepted_as (raw_end (cursor 1 (given 1 2)) (given 1 2) (hashes_of 1)) 0)
    × (within 0 1 (word "\"a") ≡ Err (refusal (fault NoLiteralRoom (given 1 1)) (cursor 0 (given 1 1)) nothing))
    × (within 3 3 (word "abc\"#") ≡ accepted_as (raw_end (cursor 5 (given 1 6)) (given 1 2) nothing) 3)
    × (within 2 3 (word "abc\"#") ≡ Err (refusal (fault StringTooLong (given 1 1)) (cursor 3 (given 1 4)) (hashes_of 1)))
unfolding the_places the_characters the_readings the_raw_rules the_raw_entries
cut-returns = (refl, refl, refl, refl, refl, refl)

-- the arguments that are refused: a text that is not UTF-8, an offset past the end and one inside a character, line 0, and the hash counts next to the range
pub refused-returns :
    Fails (scans 0 (0x80 ∷ [])) (fault NotUtf8 (given 1 1)) 0 (given 1 1)
    × Fails (parse_trace as_source [] 1 (given 1 1)) (fault BadArgument (given 1 1)) 1 (given 1 1)
    × Fails (parse_trace as_source (0xC3 ∷ 0xA9 ∷ []) 1 (given 1 1)) (fault BadArgument (given 1 1)) 1 (given 1 1)
    × Fails (parse_trace as_source [] 0 (given 0 1)) (fault BadArgument (given 0 1)) 0 (given 0 1)
    × Fails (resume_trace as_source [] 0 (given 1 1) 0) (fault BadArgument (given 1 1)) 0 (given 1 1)
    × Fails (resume_trace as_source [] 0 (given 1 1) 16777217) (fault BadArgument (given 1 1)) 0 (given 1 1)
    × Gives (resume_trace as_source [] 0 (given 1 1) 16777216) [] 0 (given 1 1) none (hashes_of 16777216)
unfolding the_places the_characters the_readings the_raw_rules the_raw_entries
refused-returns = (refl, refl, refl, refl, refl, refl, (refl, refl))
