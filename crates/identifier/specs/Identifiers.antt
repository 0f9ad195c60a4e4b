-- Identifiers: the Rust's `parse_identifier_token`, with document 01's refusals and its word book in place of `RESERVED_LIST`.
--
-- | text, from its first character   | answer                         |
-- |----------------------------------|--------------------------------|
-- | `let`                            | keyword, Let                   |
-- | `_`                              | symbol, Underscore             |
-- | `!in`                            | symbol, NotIn                  |
-- | a word of the book, as `goto`    | reserved                       |
-- | `_a1`                            | name                           |
-- | `_1`, `__`, `éa`                 | 8, with the whole text         |
-- | nothing                          | 3                              |
use Rattle.entry.specs.declared.kinds.Kind.{Kind}
use Rattle.lex_error.specs.Numbers.{Asked, asked_then, on_asked}
use Rattle.lex_error.specs.declared.LexError.TheVariants.{BadArgument}
use Rattle.std.specs.Prelude.{◌+◌, ◌-◌, leb, length, get_or, take, drop, None, Ok, Some, Err}
use Rattle.basis.specs.Types.{Text, Bytes, Offset}
use Rattle.basis.specs.Pick.{pick, either, isnt}
use Rattle.position.specs.Place.{on_line}
use Rattle.position.specs.declared.Position.{Position}
use Rattle.utf8.specs.Table.{look_at}
use Rattle.utf8.specs.Looks.{Look}
use Rattle.classes.specs.Class.{is_id_first_alphabetic}
use Rattle.chars.specs.Cursors.{cursor}
use Rattle.door.specs.Door.{door_of}
use Rattle.chars.specs.declared.cursor.Cursor.{Cursor}
use Rattle.chars.specs.Ends.{stretch_end}
use Rattle.chars.specs.declared.stretch.Stretch.TheVariants as Stretch
use Rattle.fault.specs.Faults.{part, fault, malformed_identifier}
use Rattle.entry.specs.Kinds.{name, keyword, symbol, reserved}
use Rattle.keywords.specs.Lookup.{lookup_of}
use Rattle.token.specs.Tokens as Token
use Rattle.token.specs.Lookups.{Lookup}
use Rattle.book.specs.Book.{check_of}
use Rattle.std.specs.Option.{is_some}
use Rattle.book_lookup.specs.Lookup.{reserved_of}
use Rattle.identifier.specs.Valid.{is_valid_identifier}
use Rattle.identifier.specs.Answer.{Class, Identified, classed, refused_at}

-- the kind of a listed word: a keyword is of letters, and any other is a symbol
unfoldable pub listed_kind : Text → Kind
listed_kind w = pick (is_id_first_alphabetic (get_or w 0 0)) keyword symbol

-- what no list has: a name, or malformed
unfoldable pub unlisted : Text → Class
unlisted w = pick (is_valid_identifier w) (classed name Token.Identifier) None

-- keyword before reserved before validity
unfoldable pub class_in : Bytes → Text → Lookup → Class
class_in book w (Some t) = classed (listed_kind w) t
class_in book w None = pick (is_some (reserved_of book w)) (classed reserved Token.Reserved) (unlisted w)

-- what a text is, under a book
unfoldable pub class_of : Bytes → Text → Class
class_of book w = class_in book w (lookup_of w)

-- the answer: a word; or 8 at the start, about the whole text
unfoldable pub identified_as : Cursor → Cursor → Class → Identified
identified_as s e (Some (k, t)) = Ok (record { kind = k; token = t; cursor = e })
identified_as s e None = refused_at (malformed_identifier s.place (part s.at (e.at - s.at))) e

-- the text between two cursors
abbrev pub text_between : Text → Cursor → Cursor → Text
text_between t s e = take (e.at - s.at) (drop s.at t)

-- from the start to the end of an identifier
unfoldable pub spanned : Text → Bytes → Cursor → Cursor → Identified
spanned t book s e = identified_as s e (class_of book (text_between t s e))

-- the first character is taken, whichever it is, and its place is the one given; none there is 3
unfoldable pub identified_from : Text → Bytes → Cursor → Look → Identified
identified_from t book s (Some (c, w)) = spanned t book s (stretch_end Stretch.Word t (cursor (s.at + w) s.place))
identified_from t book s None = refused_at (fault BadArgument s.place) s

-- the identifier that begins at a cursor, under a good book
unfoldable pub identify_of : Text → Bytes → Cursor → Identified
identify_of t book s = identified_from t book s (look_at t s.at)

-- what the arguments refuse: 2, 1, 3, 14 in that order
unfoldable pub identifier_argument : Text → Offset → Position → Bytes → Asked
identifier_argument t at p book =
    asked_then (door_of t at) (pick (either (isnt (on_line p)) (leb (length t) at)) (Err BadArgument) (check_of book))

-- the whole answer of the entry; what the arguments refuse is reported at the place given
unfoldable pub identifier_of : Text → Offset → Position → Bytes → Identified
identifier_of t at p book = on_asked (identifier_argument t at p book) (identify_of t book (cursor at p)) (λ e. refused_at (fault e p) (cursor at p))
