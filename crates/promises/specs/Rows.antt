-- How an example of document 01 is put to the definitions, and what it says of their answer.
use Rattle.lex_error.specs.Numbers.{number_of}
use Rattle.std.specs.Prelude.{ℕ, List, eqb, length, take, replicate, Err, Ok}
use Prim.Native.String.{String}
use Rattle.basis.specs.Pick.{pick}
use Rattle.basis.specs.Words.{word}
use Rattle.position.specs.declared.Position.{Position}
use Rattle.position.specs.Place.{place, none}
use Rattle.utf8.specs.Table.{chars}
use Rattle.literal.specs.Trace.{Trace}
use Rattle.literal.specs.Cut.{wrote}
use Rattle.literal.specs.Scans.{Scanned, accepted_as}
use Rattle.comment.specs.Block.{scan_block_comment_of}
use Rattle.comment.specs.Answer.{Commented}
use Rattle.lent.specs.Answer.{Written}
use Rattle.classes.specs.Marks.{quote, backtick}
use Rattle.raw.specs.Raw.{as_source}
use Rattle.raw.specs.Entries.{parse_trace, parse_of, resume_trace, resume_of}
use Rattle.string.specs.Entry.{string_trace, scan_of}
use Rattle.raw_writer.specs.Writer.{raw_write_of, raw_left_of}

-- what an example says
pub data Answer : Type 0 where
  -- a literal that is closed: its body, the characters used, and where it ends
  closes : List ℕ → ℕ → Position → Answer
  -- a literal that is still open at the end of the text: the same
  opens : List ℕ → ℕ → Position → Answer
  -- a comment: the level still open, the characters used, and where it ends
  leaves : ℕ → ℕ → Position → Answer
  -- a written literal: its bytes
  makes : List ℕ → Answer
  -- a refusal: its number, and the place reported
  refused : ℕ → Position → Answer

-- an example: what the definitions answer, and what document 01 says
pub record ExampleRow : Type 0 where
  pub asked : Answer
  pub said : Answer

infix 5 ◌⇒◌
abbrev pub ◌⇒◌ : Answer → Answer → ExampleRow
a ⇒ b = record { asked = a; said = b }

-- the same with the body in quotes; and a comment that is closed
abbrev pub gives : String → ℕ → Position → Answer
gives s n p = closes (word s) n p

abbrev pub gives_open : String → ℕ → Position → Answer
gives_open s n p = opens (word s) n p

abbrev pub gives_closed : ℕ → Position → Answer
gives_closed n p = leaves 0 n p

-- a literal that is written, in quotes
abbrev pub written : String → Answer
written s = makes (word s)

-- the characters used of a text that was read from its front to an offset
abbrev pub used : List ℕ → ℕ → ℕ
used t at = length (chars (take at t))

-- the body as it stands in the bytes that were lent, a hundred zeros before
abbrev pub body_in : ℕ → Scanned → Trace → List ℕ
body_in n r x = take n (wrote r x (replicate 100 0))

-- the answer of a literal's scan; it is closed if nothing is on record
abbrev pub of_literal : List ℕ → Trace → Scanned → Answer
of_literal t x (Ok (e, n)) =
    let bs = body_in n (accepted_as e n) x in
    let m = used t e.cursor.at in
    let p = e.cursor.place in
    pick (eqb e.on_record.times 0) (closes bs m p) (opens bs m p)
of_literal t x (Err f) = refused (number_of f.fault.error) f.fault.place

-- the answer of a comment's scan
abbrev pub of_comment : List ℕ → Commented → Answer
of_comment t (Ok c) = leaves c.level (used t c.cursor.at) c.cursor.place
of_comment t (Err f) = refused (number_of f.error) f.place

-- the answer of the writer: the literal at the front of what was lent
abbrev pub of_writer : Written → List ℕ → Answer
of_writer (Ok n) memory = makes (take n memory)
of_writer (Err e) memory = refused (number_of e) none

-- a raw literal entered after its first `#`, at 1:1
abbrev pub after_hash : String → Answer
after_hash s = of_literal (word s) (parse_trace as_source (word s) 0 (place 1 1)) (parse_of as_source (word s) 0 (place 1 1) 0 100)

-- a raw literal resumed with k hashes, from a place
abbrev pub resumed_after : ℕ → Position → String → Answer
resumed_after k p s = of_literal (word s) (resume_trace as_source (word s) 0 p k) (resume_of as_source (word s) 0 p k 0 100)

-- a string literal from 1:1, by its terminator, under a limit
abbrev pub quoted_by : ℕ → ℕ → String → Answer
quoted_by q limit s = of_literal (word s) (string_trace (word s) 0 (place 1 1) q) (scan_of (word s) 0 (place 1 1) q limit 100)

abbrev pub ordinary : String → Answer
ordinary s = quoted_by quote 0 s

abbrev pub limited : ℕ → String → Answer
limited limit s = quoted_by quote limit s

abbrev pub in_backticks : String → Answer
in_backticks s = quoted_by backtick 0 s

-- a block comment from 1:1, with a level given
abbrev pub comment_from : ℕ → String → Answer
comment_from level s = of_comment (word s) (scan_block_comment_of (word s) 0 (place 1 1) level)

-- a body written into a hundred bytes
abbrev pub body : String → Answer
body s = of_writer (raw_write_of (word s) (replicate 100 0)) (raw_left_of (word s) (replicate 100 0))
