-- What begins at a place of a script: document 01, "Run": "Skips White_Space, then: letter or `_` an identifier; digit a number run; `"`, `'`, backtick; `#` before `{` is a symbol, else raw; `//` to before LF; `/*`; else the longest listed symbol".
use Rattle.std.specs.Prelude.{ℕ, ◌+◌, ◌-◌, Bool, false, eqb, Option, Err, None, Ok, Some}
use Rattle.basis.specs.Types.{Bytes, Code, Offset, Text}
use Rattle.basis.specs.Pick.{pick, either}
use Rattle.position.specs.declared.Position.{Position}
use Rattle.position.specs.Place.{advanced, advanced_by, lined}
use Rattle.utf8.specs.Table.{look_at}
use Rattle.utf8.specs.Looks.{Look}
use Rattle.classes.specs.Class.{is_numeric_digit, is_id_first_alphabetic}
use Rattle.classes.specs.Marks.{lf, quote, hash, apostrophe, star, slash, underscore, backtick, left_brace}
use Rattle.entry.specs.declared.kinds.Kind.{Kind}
use Rattle.entry.specs.Kinds as kind
use Rattle.chars.specs.Cursors.{cursor}
use Rattle.chars.specs.declared.cursor.Cursor.{Cursor}
use Rattle.chars.specs.Ends.{stretch_end}
use Rattle.chars.specs.declared.stretch.Stretch.TheVariants as Stretch
use Rattle.fault.specs.Faults.{part, unexpected_input, still_open}
use Rattle.token.specs.Tokens as Token
use Rattle.identifier.specs.Identifiers.{identify_of}
use Rattle.identifier.specs.Answer.{Identified}
use Rattle.symbols.specs.Symbols.{longest_symbol_of}
use Rattle.symbols.specs.Found.{Longest}
use Rattle.comment.specs.Block.{comment_of}
use Rattle.find.specs.declared.Sign.{Sign}
use Rattle.find.specs.declared.Sign.TheVariants as sign
use Rattle.find.specs.declared.Opener.{Opener}
use Rattle.find.specs.declared.Found.{Found}
use Rattle.find.specs.declared.Found.TheVariants.{White, Part, Literal, Wrong, End}

-- what opens a literal, by its kind and by the terminator that closes it; a raw literal's is `#`
abbrev pub opener : Kind → Code → Opener
opener k q = record { kind = k; terminator = q }

abbrev pub opens_string : Opener
opens_string = opener kind.string quote

abbrev pub opens_char : Opener
opens_char = opener kind.char apostrophe

abbrev pub opens_text : Opener
opens_text = opener kind.text backtick

abbrev pub opens_raw : Opener
opens_raw = opener kind.raw hash

-- past a character that is white: only LF starts a line
unfoldable pub white_of : Code → Cursor → Found
white_of c to = White (pick (eqb c lf) (cursor to.at (lined to.place)) to)

-- a name, a keyword, a reserved word, the symbol `_`; or 8
unfoldable pub word_of : Identified → Found
word_of (Ok w) = Part w.cursor w.kind w.token
word_of (Err (f, c)) = Wrong f

-- a number: the longest run of ASCII letters, digits and `_`
unfoldable pub number_run : Text → Cursor → Found
number_run t to = Part (stretch_end Stretch.Word t to) kind.number Token.IntegerConstant

-- the longest listed symbol, whose first character is at p; or 5, about a character so many bytes wide
unfoldable pub symbol_of : Offset → ℕ → Position → Longest → Found
symbol_of at w p (Some (token, n)) = Part (cursor (at + n) (advanced_by (n - 1) p)) kind.symbol token
symbol_of at w p None = Wrong (unexpected_input p (part at w))

-- `//` to before LF, from behind the second character
unfoldable pub line_comment : Text → Cursor → Found
line_comment t c = Part (stretch_end Stretch.Line t c) kind.comment Token.Comment

-- `/*` to its end, from behind the second character; 11 at the cursor where a level is still open there
unfoldable pub block_comment : Text → Cursor → Found
block_comment t c = let r = comment_of t c 1 in pick (eqb r.level 0) (Part r.cursor kind.comment Token.Comment) (Wrong (still_open r.cursor.place))

-- the code point of a character found; None at the end
abbrev pub code_of : Look → Option Code
code_of (Some (c, w)) = Some c
code_of None = None

-- it is the code point d
abbrev pub is_code : Code → Option Code → Bool
is_code d (Some c) = eqb c d
is_code d None = false

-- what `/` is the sign of, by the character behind it
unfoldable pub slash_sign : Option Code → Sign
slash_sign behind = pick (is_code slash behind) sign.Line (pick (is_code star behind) sign.Block sign.Symbol)

-- what `#` is the sign of, by the character behind it
unfoldable pub hash_sign : Option Code → Sign
hash_sign behind = pick (is_code left_brace behind) sign.Symbol (sign.Literal opens_raw)

-- what a mark at an offset is the sign of. A mark is a character that is not white, no letter, no `_` and no digit
unfoldable pub sign_at : Text → Offset → Code → Sign
sign_at t at c =
    pick (eqb c quote) (sign.Literal opens_string)
    (pick (eqb c apostrophe) (sign.Literal opens_char)
    (pick (eqb c backtick) (sign.Literal opens_text)
    (pick (eqb c hash) (hash_sign (code_of (look_at t (at + 1))))
    (pick (eqb c slash) (slash_sign (code_of (look_at t (at + 1))))
    sign.Symbol))))

-- what begins at a sign, whose first character is so many bytes wide
abbrev pub on_sign : Text → Offset → Position → ℕ → Sign → Found
on_sign t at p w (sign.Literal o) = Literal (cursor (at + w) p) o
on_sign t at p w sign.Line = line_comment t (cursor (at + 2) (advanced p))
on_sign t at p w sign.Block = block_comment t (cursor (at + 2) (advanced p))
on_sign t at p w sign.Symbol = symbol_of at w p (longest_symbol_of t at)

-- what a mark begins
unfoldable pub mark_of : Text → Offset → Position → Code → ℕ → Found
mark_of t at p c w = on_sign t at p w (sign_at t at c)

-- a letter or `_`
unfoldable pub begins_word : Code → Bool
begins_word c = either (is_id_first_alphabetic c) (eqb c underscore)

-- what a character begins, so many bytes wide, at an offset and a place
unfoldable pub begins_of : (Code → Bool) → Text → Bytes → Offset → Position → Code → ℕ → Found
begins_of white t book at p c w =
    pick (white c) (white_of c (cursor (at + w) p))
    (pick (begins_word c) (word_of (identify_of t book (cursor at p)))
    (pick (is_numeric_digit c) (number_run t (cursor (at + w) p))
    (mark_of t at p c w)))

abbrev pub on_look : (Code → Bool) → Text → Bytes → Cursor → Look → Found
on_look white t book s (Some (c, w)) = begins_of white t book s.at (advanced s.place) c w
on_look white t book s None = End

-- what begins behind a cursor, by what is white, under a good book
unfoldable pub find_of : (Code → Bool) → Text → Bytes → Cursor → Found
find_of white t book s = on_look white t book s (look_at t s.at)
