-- The first half of a turn of a string literal: document 01, "Each turn, in this order: take a character; ..", and the loop of the Rust's `parse_string_literal`.
use Rattle.std.specs.declared.ops.ControlFlow.TheVariants.{Break}
use Rattle.std.specs.Prelude.{is_none, ℕ, Bool, true, false, eqb, Err, None, Ok, Some}
use Rattle.basis.specs.Types.{Code, Offset, Text}
use Rattle.basis.specs.Pick.{pick, both, either, isnt}
use Rattle.position.specs.declared.Position.{Position}
use Rattle.position.specs.Place.{advanced}
use Rattle.utf8.specs.Table.{look_at}
use Rattle.utf8.specs.Looks.{Look}
use Rattle.chars.specs.Cursors.{cursor, get_next_of, eat_next_of}
use Rattle.chars.specs.declared.cursor.Cursor.{Cursor}
use Rattle.classes.specs.Marks.{dollar, backslash, left_brace}
use Rattle.literal.specs.Answers.{once, nothing, ending}
use Rattle.escape.specs.Escapes.{on_taken}
use Rattle.string_turn.specs.Kinds.{is_verbatim, is_continued, is_interpolated}
use Rattle.string_turn.specs.Endings.{unterminated_at}
use Rattle.string_turn.specs.Answer.{Pending, got_char}
use Rattle.string_turn.specs.declared.take.Scanning.{Scanning}
use Rattle.string_turn.specs.Answer.{Last}
use Rattle.string_turn.specs.Answer.{Got}

-- between two turns: the place, the first place, the escape that is pending, and the column below which white space is skipped
abbrev pub scanning : Position → Position → Pending → ℕ → Scanning
scanning p f e k = record { place = p; first = f; escape = e; skip = k }

-- no escape is pending
abbrev pub is_empty : Pending → Bool
is_empty e = is_none e

-- the character is c
abbrev pub is_char : Code → Look → Bool
is_char c (Some (d, w)) = eqb d c
is_char c None = false

-- the character at an offset is c
unfoldable pub next_is : Text → Offset → Code → Bool
next_is t at c = is_char c (look_at t at)

-- the end of input: a column more; text, and an ordinary literal after a lone backslash, are still open
unfoldable pub input_end : Code → Position → Offset → Scanning → Last
input_end q start at s =
    pick (either (is_verbatim q) (both (is_continued q) (isnt (is_empty s.escape))))
    (Ok (ending (cursor at (advanced s.place)) s.first (once q) false))
    (Err (unterminated_at start (cursor at (advanced s.place))))

-- in text: `${` ends the piece with `$` consumed, `{` not; `\$` before `{` gives `$`, one column for both
unfoldable pub dollar_of : Text → Code → Cursor → Position → Got
dollar_of t c here first =
    pick (eqb c dollar) (pick (next_is t here.at left_brace) (Break (Ok (ending here first nothing true))) (got_char c here))
    (pick (eqb c backslash)
    (on_taken (get_next_of t here) (λ d next. pick (both (eqb d dollar) (next_is t next.at left_brace)) (got_char dollar next) (got_char c here)) (got_char c here))
    (got_char c here))

-- first, a character is taken, with a column
unfoldable pub take_of : Text → Code → Position → Offset → Scanning → Got
take_of t q start at s =
    on_taken (eat_next_of t (cursor at s.place))
    (λ c here. pick (both (is_interpolated q) (is_empty s.escape)) (dollar_of t c here s.first) (got_char c here))
    (Break (input_end q start at s))
