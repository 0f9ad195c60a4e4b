-- The second half of a turn of a string literal, step by step: document 01, "Each turn, in this order: .. the limit; terminator alone closes, doubled gives itself; then: ..", and the loop of the Rust's `parse_string_literal`.
use Rattle.std.specs.declared.ops.ControlFlow.TheVariants.{Break}
use Rattle.std.specs.Prelude.{ℕ, ◌+◌, ◌-◌, Bool, false, eqb, ltb, Err, None, Ok, Some}
use Rattle.basis.specs.Types.{Code, Offset, Text}
use Rattle.basis.specs.Pick.{pick, both, isnt}
use Rattle.position.specs.declared.Position.{Position}
use Rattle.position.specs.Place.{column_number, lined, rewound, or_else}
use Rattle.chars.specs.Cursors.{cursor, eat_next_of}
use Rattle.chars.specs.declared.cursor.Cursor.{Cursor}
use Rattle.classes.specs.Marks.{lf, cr, backslash}
use Rattle.literal.specs.Answers.{nothing, ending}
use Rattle.escape.specs.Escapes.{no_char, escaped_of, on_taken}
use Rattle.escape.specs.declared.Escaped.{Escaped}
use Rattle.escape.specs.declared.Escaped.TheVariants as escaped
use Rattle.string_turn.specs.Kinds.{is_verbatim, is_continued}
use Rattle.string_turn.specs.Endings.{unterminated_at, malformed_at}
use Rattle.string_turn.specs.Take.{scanning, is_empty, next_is}
use Rattle.string_turn.specs.Answer.{Pending, goes_with}
use Rattle.string_turn.specs.declared.take.Scanning.{Scanning}
use Rattle.string_turn.specs.Answer.{Acted}
use Rattle.string_turn.specs.Answer.{Closing}

-- then, the limit tested, the terminator: alone it closes, doubled it gives itself and the second is taken too; after a backslash it does neither
unfoldable pub close_of : Text → Code → Code → Cursor → Pending → Closing
close_of t q c here e =
    pick (both (eqb c q) (is_empty e))
    (on_taken (eat_next_of t here) (λ d next. pick (eqb d q) (Some next) None) None)
    (Some here)

-- a line feed: kept in text; after a backslash in an ordinary literal it is skipped, and white space up to the start's column with it; else 4, the column rewound
unfoldable pub line_feed_of : Code → Position → Offset → Scanning → Acted
line_feed_of q start at s =
    pick (is_verbatim q) (goes_with lf at (scanning (lined s.place) s.first s.escape s.skip))
    (pick (both (is_continued q) (isnt (is_empty s.escape))) (goes_with no_char at (scanning (lined s.place) s.first None (column_number start + 1)))
    (Break (Err (unterminated_at start (cursor at (rewound s.place))))))

-- what an escape stands for
abbrev pub on_escaped : {A : Type 0} → Escaped → (ℕ → Cursor → A) → (Cursor → A) → A → A
on_escaped (escaped.Char c next) f g other = f c next
on_escaped (escaped.Malformed next) f g other = g next
on_escaped escaped.Other f g other = other

-- the character after a backslash: an escape that all literals have, or the escaped terminator; every other is 6. The skipping goes on
unfoldable pub escape_of : Text → Code → Code → ℕ → Offset → Scanning → Acted
escape_of t q c from at s =
    on_escaped (escaped_of t c (cursor at s.place))
    (λ d next. goes_with d next.at (scanning next.place s.first None s.skip))
    (λ next. Break (Err (malformed_at q from next)))
    (pick (eqb c q) (goes_with q at (scanning s.place s.first None s.skip)) (Break (Err (malformed_at q from (cursor at s.place)))))

-- white space that is skipped; any other character is added, and ends the skipping
unfoldable pub add_of : (Code → Bool) → Code → Offset → Scanning → Acted
add_of white c at s =
    pick (both (white c) (ltb (column_number s.place) s.skip)) (goes_with no_char at s)
    (goes_with c at (scanning s.place s.first None 0))

-- with no escape pending: a backslash, but in text, begins one
unfoldable pub plain_of : (Code → Bool) → Code → Code → Offset → Scanning → Acted
plain_of white q c at s =
    pick (both (isnt (is_verbatim q)) (eqb c backslash)) (goes_with no_char at (scanning s.place s.first (Some (at - 1)) s.skip))
    (add_of white c at s)

-- with no escape pending, or with one
abbrev pub on_pending : {A : Type 0} → Pending → A → (ℕ → A) → A
on_pending None plain f = plain
on_pending (Some from) plain f = f from

-- a character that is no line feed and does not vanish
unfoldable pub other_of : (Code → Bool) → Text → Code → Code → Offset → Scanning → Acted
other_of white t q c at s = on_pending s.escape (plain_of white q c at s) (λ from. escape_of t q c from at s)

-- the Rust's match on the character: a CR before LF vanishes; a line feed; any other
unfoldable pub match_of : (Code → Bool) → Text → Code → Position → Code → Offset → Scanning → Acted
match_of white t q start c at s =
    pick (both (eqb c cr) (next_is t at lf)) (goes_with no_char at s)
    (pick (eqb c lf) (line_feed_of q start at s) (other_of white t q c at s))

-- a terminator that closes, or the cursor behind one that does not
abbrev pub on_closing : {A : Type 0} → Closing → A → (Cursor → A) → A
on_closing None closed f = closed
on_closing (Some here) closed f = f here

-- what the character c leads to: a terminator may close; else the first place is the place now if none was, and the match follows
unfoldable pub act_of : (Code → Bool) → Text → Code → Position → Code → Cursor → Scanning → Acted
act_of white t q start c here s =
    on_closing (close_of t q c here s.escape) (Break (Ok (ending here s.first nothing false)))
    (λ to. match_of white t q start c to.at (scanning to.place (or_else s.first to.place) s.escape s.skip))
