-- The entries of the raw literal: document 01, "Raw literal" and refusal 3. What their arguments refuse, and what a limit and a room leave of the reading.
--
-- Returns from 1:1, with no limit and ample room; k is the Rust's hash count, 0 where the literal is entered after its first `#`:
--
--   k | text                 | body            | offset | position | first | on record
--   0 | "hello"#             | hello           | 8      | 1:9      | 1:3   | nothing
--   0 | "hello               | hello           | 6      | 1:7      | 1:3   | #
--   0 | ###"hello            | hello           | 9      | 1:10     | 1:6   | ####
--   0 | " "hello" "          |  "hello"        | 11     | 1:12     | 1:3   | #          the source's table says that this is an error, its code accepts it
--   0 | ""hello""#           | "hello"         | 10     | 1:11     | 1:3   | nothing
--   0 | #"hello #"# world"## | hello #"# world | 20     | 1:21     | 1:4   | nothing
--   0 | "R"#                 | R               | 4      | 1:5      | 1:3   | nothing
--   0 | "\x52"#              | \x52            | 7      | 1:8      | 1:3   | nothing
--   0 | "a"b"#;              | a"b             | 6      | 1:7      | 1:3   | nothing
--   0 | a                    | 5, about 0, 1   | 1      | 1:1      | NONE  | nothing
--   0 | #é                   | 5, about 1, 2   | 3      | 1:2      | NONE  | nothing
--   0 |                      | 4               | 0      | 1:1      | NONE  | nothing
--   0 | #                    | 4               | 1      | 1:2      | NONE  | nothing
--   2 | "#"##                | "#              | 5      | 1:6      | 1:2   | nothing
--   1 | ab"                  | ab              | 3      | 1:4      | 1:2   | #
--   1 | "#                   |                 | 2      | 1:3      | 1:2   | nothing
--   1 | ""#                  | "               | 3      | 1:4      | 1:2   | nothing
--   1 |                      |                 | 0      | 1:1      | NONE  | #
--   1 | LF                   | LF              | 1      | 2:0      | 2:0   | #
--   1 | é                    | é               | 2      | 1:2      | 1:2   | #
--   1 | " LF x"#             | " LF x          | 5      | 1:8      | 1:4   | nothing    from 1:3
--   1 | LF x"#               | LF x            | 4      | 2:3      | 2:0   | nothing    from 1:3
--
-- Each row is proved in proofs/Returns.antt.
use Rattle.lex_error.specs.declared.LexError.TheVariants.{BadArgument}
use Rattle.lex_error.specs.Numbers.{Asked, no_refusal, asked_then, on_asked}
use Rattle.std.specs.Prelude.{ℕ, Err}
use Rattle.basis.specs.Types.{Offset, Text}
use Rattle.basis.specs.Pick.{pick}
use Rattle.position.specs.declared.Position.{Position}
use Rattle.position.specs.Place.{on_line}
use Rattle.utf8.specs.Table.{◌‥◌, within}
use Rattle.chars.specs.Cursors.{cursor}
use Rattle.door.specs.Door.{door_of}
use Rattle.chars.specs.declared.cursor.Cursor.{Cursor}
use Rattle.literal.specs.Trace.{Trace, fails}
use Rattle.literal.specs.Cut.{cut}
use Rattle.literal.specs.Scans.{Scanned}
use Rattle.literal.specs.Answers.{as_given, full}
use Rattle.raw.specs.Raw.{read_of, Newlines}

-- the reading, or the refusal that the arguments are given
unfoldable pub raw_trace : Newlines → Asked → Text → Cursor → ℕ → Trace
raw_trace mode asked t start k = on_asked asked (read_of mode t start k) (λ e. fails (as_given e start))

-- what the arguments refuse: 2, 1, 3 at the door; 3 for a place on no line
unfoldable pub enters_of : Text → Cursor → Asked
enters_of t start = asked_then (door_of t start.at) (pick (on_line start.place) no_refusal (Err BadArgument))

-- the same for a hash count given, which is 1 to 16,777,216
unfoldable pub resumes_of : Text → Cursor → ℕ → Asked
resumes_of t start k = asked_then (enters_of t start) (pick (within (1 ‥ 16777216) k) no_refusal (Err BadArgument))

-- entered after the first hash: the reading, and what a limit and a room leave of it
unfoldable pub parse_trace : Newlines → Text → Offset → Position → Trace
parse_trace mode t at p = raw_trace mode (enters_of t (cursor at p)) t (cursor at p) 0

unfoldable pub parse_of : Newlines → Text → Offset → Position → ℕ → ℕ → Scanned
parse_of mode t at p limit room = cut (full (cursor at p)) limit room 0 (parse_trace mode t at p)

-- resumed with a hash count: the same
unfoldable pub resume_trace : Newlines → Text → Offset → Position → ℕ → Trace
resume_trace mode t at p k = raw_trace mode (resumes_of t (cursor at p) k) t (cursor at p) k

unfoldable pub resume_of : Newlines → Text → Offset → Position → ℕ → ℕ → ℕ → Scanned
resume_of mode t at p k limit room = cut (full (cursor at p)) limit room 0 (resume_trace mode t at p k)
