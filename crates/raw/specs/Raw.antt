-- The reading of a raw literal: document 01, "Raw literal", and the Rust's `parse_raw_string_literal`. Its opening is in Opening, and what the entries ask first in Entries.
use Rattle.std.specs.Prelude.{ℕ, zero, suc, ◌+◌, Bool, true, false, List, [], ◌∷◌, ◌++◌, eqb, ltb, replicate, Err, Ok}
use Rattle.basis.specs.Types.{Bytes, Code, Offset, Text}
use Rattle.basis.specs.Pick.{pick, both}
use Rattle.position.specs.declared.Position.{Position}
use Rattle.position.specs.Place.{none, or_else, advanced, lined}
use Rattle.utf8.specs.Table.{Ch}
use Rattle.utf8.specs.Encode.{encode}
use Rattle.chars.specs.Cursors.{cursor}
use Rattle.chars.specs.Scan.{Turn, go, stop, Rule, run_at}
use Rattle.chars.specs.declared.cursor.Cursor.{Cursor}
use Rattle.literal.specs.Trace.{Trace, ends, fails, Yield, added, tested, yields}
use Rattle.literal.specs.declared.Terminator.{Terminator}
use Rattle.literal.specs.declared.End.{End}
use Rattle.classes.specs.Marks.{lf, quote, hash}
use Rattle.literal.specs.Answers.{nothing, ending, too_long}
use Rattle.raw.specs.Opening.{opened_of}
use Rattle.raw.specs.Answer.{Opened}

-- which line feeds of a body start a line: the source's rule, by which one that ends an attempt to close starts none; or the corrected one, by which each does
pub data Newlines : Type 0 where
  as_the_source : Newlines
  corrected : Newlines

abbrev pub as_source : Newlines
as_source = as_the_source

-- whether a line feed starts a line, where so many bytes are held back
abbrev pub starts_line : Newlines → ℕ → Bool
starts_line as_the_source held = eqb held 0
starts_line corrected held = true

-- k hashes are on record
abbrev pub hashes_of : ℕ → Terminator
hashes_of k = record { c = hash; times = k }

-- an accepted literal's end: the cursor, the first place, and what is on record
abbrev pub raw_end : Cursor → Position → Terminator → End
raw_end c p r = ending c p r false

-- where a scan of the body stands: how many bytes are held back, 0 outside an attempt to close; the place; the first place
pub record BodyState : Type 0 where
  pub held : ℕ
  pub place : Position
  pub first : Position

abbrev pub body_state : ℕ → Position → Position → BodyState
body_state n p q = record { held = n; place = p; first = q }

-- the bytes held back during an attempt to close: a quote and the hashes after it
unfoldable pub held_back : ℕ → List ℕ
held_back zero = []
held_back (suc n) = quote ∷ replicate n hash

-- a step that does not close: bytes are added and the limit is tested; then the first place is set where it was not
abbrev pub steps : Position → ℕ → Offset → Position → Bytes → ℕ → Position → Turn BodyState (List Yield) Trace
steps start k at first bs n p = go (added bs ∷ tested (too_long start (cursor at p) (hashes_of k)) ∷ []) 0 (body_state n p (or_else first p))

-- the place behind a kept character, one column on at p: an LF that starts a line
unfoldable pub placed : Newlines → ℕ → Code → Position → Position
placed mode held c p = pick (both (eqb c lf) (starts_line mode held)) (lined p) p

-- where the text ends: accepted, the hashes still on record, and what is held back dropped
unfoldable pub at_end : ℕ → Offset → BodyState → Trace
at_end k at s = ends (raw_end (cursor at s.place) s.first (hashes_of k))

-- one character of a body that k hashes close: a quote begins or restarts an attempt to close; the k-th hash of an attempt closes, an earlier one is held back; any other character ends an attempt
unfoldable pub body_turn : Newlines → Position → ℕ → Offset → List Ch → BodyState → Turn BodyState (List Yield) Trace
body_turn mode start k at [] s = stop (at_end k at s)
body_turn mode start k at (c ∷ cs) s =
    let next = at + c.width in
    let p = advanced s.place in
    pick (eqb c.code quote) (steps start k next s.first (held_back s.held) 1 p)
    (pick (both (ltb 0 s.held) (eqb c.code hash))
    (pick (eqb s.held k) (stop (ends (raw_end (cursor next p) s.first nothing))) (steps start k next s.first [] (s.held + 1) p))
    (steps start k next s.first (held_back s.held ++ encode c.code) 0 (placed mode s.held c.code p)))

-- the rule for the body of a literal whose start is at a place
abbrev pub body_rule : Newlines → Position → ℕ → Rule BodyState (List Yield) Trace
body_rule mode start k = record { turn = body_turn mode start k; end = at_end k; note = yields }

-- the reading of a body that k hashes close, from the cursor where it begins
unfoldable pub body_of : Newlines → Text → Position → ℕ → Cursor → Trace
body_of mode t start k from = run_at (body_rule mode start k) t from.at (body_state 0 from.place none)

-- the reading that is left behind the opening
abbrev pub behind_opening : Newlines → Text → Position → Opened → Trace
behind_opening mode t start (Ok (k, from)) = body_of mode t start k from
behind_opening mode t start (Err f) = fails f

-- the reading of a text from a cursor by the unlimited rules, with the Rust's hash count
unfoldable pub read_of : Newlines → Text → Cursor → ℕ → Trace
read_of mode t start k = behind_opening mode t start.place (opened_of t start k)
