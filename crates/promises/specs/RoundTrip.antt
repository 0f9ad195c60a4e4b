-- Demand 2, the round trip: what the raw writer makes, the raw scanner reads back. The statements; their proofs are in proofs/RoundTrip.antt, and proofs/Calls.antt carries them to the functions.
use Rattle.std.specs.Prelude.{ℕ, ◌+◌, ◌≤◌, true, false, List, [], ◌++◌, ◌≡◌, length, take, Err, Ok}
use Rattle.basis.specs.Store.{over}
use Rattle.position.specs.declared.Position.{Position}
use Rattle.position.specs.Place.{none, on_line}
use Rattle.utf8.specs.Table.{well}
use Rattle.chars.specs.Cursors.{cursor}
use Rattle.fault.specs.Faults.{part}
use Rattle.lent.specs.Answer.{Written}
use Rattle.literal.specs.Trace.{passes}
use Rattle.literal.specs.Cut.{wrote}
use Rattle.literal.specs.Told.{Told, told}
use Rattle.literal.specs.declared.End.{End}
use Rattle.literal.specs.Scans.{Scanned, accepted_as}
use Rattle.literal.specs.Answers.{nothing}
use Rattle.raw.specs.Raw.{as_source}
use Rattle.raw.specs.Entries.{parse_trace, parse_of}
use Rattle.raw_writer.specs.Writer.{raw_literal_of, raw_write_of, raw_left_of}
use Rattle.promises.specs.LiteralPlaces.{first_place, end_place}

-- ---- the words of the demand
-- a text is UTF-8
abbrev pub Utf8 : List ℕ → Type 0
Utf8 text = well text ≡ true

-- document 01 admits a text: it is UTF-8 of at most 16,777,216 bytes
abbrev pub Admits : List ℕ → Type 0
Admits text = Utf8 text × (length text ≤ 16777216)

-- a valid start: the place is on a line
abbrev pub Valid : Position → Type 0
Valid start = on_line start ≡ true

-- bytes are within a string limit; 0 is no limit
abbrev pub Within : ℕ → List ℕ → Type 0
Within limit xs = passes limit (length xs) ≡ false

-- bytes have room in a buffer
abbrev pub HasRoom : List ℕ → List ℕ → Type 0
HasRoom xs buffer = length xs ≤ length buffer

-- ---- who takes part
-- a writer: its answer to a body and a lent buffer, and what the buffer holds then
pub record Writer : Type 0 where
  pub answers : List ℕ → List ℕ → Written
  pub leaves : List ℕ → List ℕ → List ℕ

-- a scanner: its answer to a text, entered at an offset and a place, with a limit and a lent buffer; and what the buffer holds then
pub record Scanner : Type 0 where
  pub answers : List ℕ → ℕ → Position → ℕ → List ℕ → Scanned
  pub leaves : List ℕ → ℕ → Position → ℕ → List ℕ → List ℕ

-- ours, in the words of the contract of `raw_write`
abbrev pub raw_writer : Writer
raw_writer = record { answers = raw_write_of; leaves = raw_left_of }

-- and of `parse_raw_string_literal`
abbrev pub raw_scanner : Scanner
raw_scanner = record {
  answers = λ text at start limit buffer. parse_of as_source text at start limit (length buffer);
  leaves = λ text at start limit buffer. wrote (parse_of as_source text at start limit (length buffer)) (parse_trace as_source text at start) buffer;
}

-- the bytes that were written: so many at the front of the buffer as the answer says
abbrev pub made : Written → List ℕ → List ℕ
made (Ok n) buffer = take n buffer
made (Err n) buffer = []

-- ---- the demand
-- what is told of a literal that starts behind n bytes and is read back: no refusal; the offset behind exactly that literal, and the position there; the first place; nothing on record; the length of that body; no `${`
abbrev pub read_back : List ℕ → ℕ → Position → Told
read_back body n start =
    record {
      number = 0;
      place = none;
      about = part 0 0;
      cursor = cursor (n + length (raw_literal_of body)) (end_place body start);
      first = first_place body start;
      terminator = nothing;
      len = length body;
      interpolated = false;
    }

-- a body, written with an answer w and scanned behind `before` with an answer r, came back in a buffer, which then holds `left`
pub record ComesBack (body before : List ℕ) (start : Position) (buffer : List ℕ) (w : Written) (r : Scanned) (left : List ℕ) : Type 0 where
  pub is_written : w ≡ Ok (length (raw_literal_of body))
  pub end : End
  pub is_accepted : r ≡ accepted_as end (length body)
  pub is_told : told r ≡ read_back body (length before) start
  pub is_left : left ≡ over body buffer

-- Demand 2, of a writer and a scanner. Given
--   a body that is UTF-8, and a valid start;
--   any text before the body's literal and any after it, so that document 01 admits the whole;
--   room for the literal where it is written, and a limit and room for the body where it is scanned:
-- the writer answers the literal's length (is_written); the scanner, entered behind the first `#` of what the writer made, accepts (is_accepted), tells that it used exactly that literal and left nothing on record (is_told), and leaves exactly that body at the front of its buffer (is_left).
abbrev pub ReadsBack : Writer → Scanner → Type 0
ReadsBack w s =
    (body before after lent buffer : List ℕ) (start : Position) (limit : ℕ)
    → Utf8 body
    → Valid start
    → Admits (before ++ raw_literal_of body ++ after)
    → HasRoom (raw_literal_of body) lent
    → Within limit body
    → HasRoom body buffer
    → let text = before ++ made (w.answers body lent) (w.leaves body lent) ++ after in
    ComesBack body before start buffer (w.answers body lent) (s.answers text (length before + 1) start limit buffer) (s.leaves text (length before + 1) start limit buffer)

abbrev pub RoundTrip : Type 0
RoundTrip = ReadsBack raw_writer raw_scanner

-- the whole is UTF-8 wherever the literal of such a body stands between UTF-8 texts, so that no body is left out for want of a text
abbrev pub StandsAnywhere : Type 0
StandsAnywhere = (body before after : List ℕ) → Utf8 body → Utf8 before → Utf8 after → Utf8 (before ++ raw_literal_of body ++ after)

-- ---- what the demand shuts out, whatever the other of the two does
-- a scanner that refuses all: by is_accepted, and the number of is_told
abbrev pub RefusesAll : Scanner → Type 0
RefusesAll s = (text : List ℕ) (at : ℕ) (start : Position) (limit : ℕ) (buffer : List ℕ) → (told (s.answers text at start limit buffer)).number ≡ 0 → ⊥

-- one that has a fixed body, which may depend on everything but the text: by is_left, of two bodies
abbrev pub FixedBody : Scanner → (ℕ → Position → ℕ → List ℕ → List ℕ) → Type 0
FixedBody s body = (text : List ℕ) (at : ℕ) (start : Position) (limit : ℕ) (buffer : List ℕ) → s.leaves text at start limit buffer ≡ over (body at start limit buffer) buffer

-- one that invents how many bytes it used, knowing everything but the text: by the offset of is_told, of two bodies
abbrev pub InventsCount : Scanner → (ℕ → Position → ℕ → List ℕ → ℕ) → Type 0
InventsCount s count =
    (text : List ℕ) (at : ℕ) (start : Position) (limit : ℕ) (buffer : List ℕ) → (told (s.answers text at start limit buffer)).cursor.at ≡ at + count at start limit buffer

-- a writer that writes nothing, whatever it answers: by is_written and is_left, as two bodies would have to come back from one text
abbrev pub WritesNothing : Writer → Type 0
WritesNothing w = (body lent : List ℕ) → w.leaves body lent ≡ lent

abbrev pub ShutsOut : Type 0
ShutsOut =
    (w : Writer) (s : Scanner) → ReadsBack w s
    → (RefusesAll s → ⊥)
    × ((body : ℕ → Position → ℕ → List ℕ → List ℕ) → FixedBody s body → ⊥)
    × ((count : ℕ → Position → ℕ → List ℕ → ℕ) → InventsCount s count → ⊥)
    × (WritesNothing w → ⊥)
