-- The string literal: document 01, "String literal", and the Rust's `parse_string_literal`.
--
-- | terminator | text                         | answer                             | on record |
-- |------------|------------------------------|------------------------------------|-----------|
-- | `"`        | `hello"`                     | `hello`                            | nothing   |
-- | `"`        | `hello` LF, or the end       | 4                                  | nothing   |
-- | `"`        | `hello\` and the end         | `hello`                            | `"`       |
-- | `"`        | `hello\` LF and the end      | 4; the source's table says `hello` | nothing   |
-- | backtick   | `hello` and the end          | `hello`                            | backtick  |
-- | backtick   | `hello` LF and the end       | `hello` LF                         | backtick  |
-- | backtick   | `hello ${`                   | `hello `, and `{` is next          | nothing   |
-- | backtick   | ` hello` and a backtick      | ` hello`                           | nothing   |
-- | backtick   | ` hello` and the end         | ` hello`                           | backtick  |
-- | `'`        | `a'`                         | `a`                                | nothing   |
-- | `'`        | `\` LF, or the end           | 4                                  | nothing   |
-- | `"`        | `\q"`                        | 6                                  | `"`       |
-- | backtick   | `ab` and a backtick, limit 1 | 7                                  | backtick  |
-- | backtick   | `ab${`, limit 1              | 7                                  | nothing   |
--
-- Each row is proved in proofs/Returns.antt.
use Rattle.lex_error.specs.declared.LexError.TheVariants.{BadArgument}
use Rattle.lex_error.specs.Numbers.{Asked, no_refusal, asked_then, on_asked}
use Rattle.std.specs.Prelude.{ℕ, eqb, Err}
use Rattle.basis.specs.Types.{Code, Offset, Text}
use Rattle.basis.specs.Pick.{pick}
use Rattle.position.specs.declared.Position.{Position}
use Rattle.position.specs.Place.{on_line, begins_line}
use Rattle.chars.specs.Cursors.{cursor}
use Rattle.door.specs.Door.{door_of}
use Rattle.white.specs.White.{is_white}
use Rattle.literal.specs.Trace.{Trace, fails}
use Rattle.literal.specs.Cut.{cut}
use Rattle.literal.specs.Scans.{Scanned}
use Rattle.classes.specs.Marks.{quote, apostrophe, backtick}
use Rattle.literal.specs.Answers.{as_given, full}
use Rattle.string.specs.Reading.{string_reading}

-- 3: the place is on no line, an ordinary literal starts at column 0, or the terminator is none of the three
unfoldable pub start_refuses : Position → Code → Asked
start_refuses p q =
    pick (on_line p)
    (pick (eqb q quote) (pick (begins_line p) (Err BadArgument) no_refusal)
    (pick (eqb q apostrophe) no_refusal
    (pick (eqb q backtick) no_refusal (Err BadArgument)))) (Err BadArgument)

-- what the arguments refuse: 2, 1, 3
unfoldable pub argument_refuses : Text → Offset → Position → Code → Asked
argument_refuses t at p q = asked_then (door_of t at) (start_refuses p q)

-- the reading, with the refusals of the arguments in front
unfoldable pub string_trace : Text → Offset → Position → Code → Trace
string_trace t at p q = on_asked (argument_refuses t at p q) (string_reading is_white t q (cursor at p)) (λ e. fails (as_given e (cursor at p)))

-- the scan's answer
unfoldable pub scan_of : Text → Offset → Position → Code → ℕ → ℕ → Scanned
scan_of t at p q limit room = cut (full (cursor at p)) limit room 0 (string_trace t at p q)
