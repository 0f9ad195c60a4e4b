-- The opening of a raw literal: document 01, "Raw literal", and the Rust's `parse_raw_string_literal` up to where the body begins.
use Rattle.std.specs.Prelude.{ℕ, ◌+◌, List, [], ◌∷◌, eqb, Err}
use Rattle.basis.specs.Types.{Offset, Text}
use Rattle.basis.specs.Pick.{pick}
use Rattle.position.specs.declared.Position.{Position}
use Rattle.position.specs.Place.{advanced}
use Rattle.utf8.specs.Table.{Ch}
use Rattle.classes.specs.Marks.{quote, hash}
use Rattle.chars.specs.Cursors.{cursor}
use Rattle.chars.specs.Scan.{Turn, go, stop, Rule, run_at}
use Rattle.chars.specs.declared.cursor.Cursor.{Cursor}
use Rattle.fault.specs.Faults.{part, unterminated_string, unexpected_input}
use Rattle.literal.specs.Answers.{nothing, refusal}
use Rattle.raw.specs.Answer.{Opened, opened_as}

-- where a scan of the opening stands: it has counted so many hashes, and is at a place
pub record Counted : Type 0 where
  pub hashes : ℕ
  pub place : Position

abbrev pub counted : ℕ → Position → Counted
counted k p = record { hashes = k; place = p }

-- where the text ends before the quote: 4
unfoldable pub cut_off : Position → Offset → Counted → Opened
cut_off start at s = Err (refusal (unterminated_string start) (cursor at s.place) nothing)

-- one character after the first hash: the quote that opens the body, another hash, or 5, whose offset is past the character and whose position is not
unfoldable pub opening_turn : Position → Offset → List Ch → Counted → Turn Counted (Unit {0}) Opened
opening_turn start at [] s = stop (cut_off start at s)
opening_turn start at (c ∷ cs) s =
    pick (eqb c.code quote) (stop (opened_as s.hashes (cursor (at + c.width) (advanced s.place))))
    (pick (eqb c.code hash) (go tt 0 (counted (s.hashes + 1) (advanced s.place)))
    (stop (Err (refusal (unexpected_input start (part at c.width)) (cursor (at + c.width) s.place) nothing))))

-- the rule for a literal whose start is at a place
abbrev pub opening_rule : Position → Rule Counted (Unit {0}) Opened
opening_rule start = record { turn = opening_turn start; end = cut_off start; note = λ n r. r }

-- what the opening leads to, by the Rust's hash count: 0 says that the literal is entered after its first hash, any other that it is resumed in its body
unfoldable pub opened_of : Text → Cursor → ℕ → Opened
opened_of t start k = pick (eqb k 0) (run_at (opening_rule start.place) t start.at (counted 1 start.place)) (opened_as k start)
