-- The listing of a script: document 01, "Listing program", and "Bytes are lowercase hex, `-` for none; positions as the source's Debug form. A refused run ends `stop N place`; input past the buffer prints only `stop 2 1`".
use Rattle.entry.specs.Kinds.{kind_number}
use Rattle.lex_error.specs.Numbers.{number_of}
use Rattle.std.specs.Prelude.{ℕ, zero, suc, ◌+◌, ◌/◌, ◌%◌, min, List, [], ◌∷◌, ◌++◌, leb, ltb, length, get_or, take, drop, replicate, Err, Ok}
use Rattle.basis.specs.Types.{Bytes, Offset, Text}
use Rattle.basis.specs.Pick.{pick, both}
use Rattle.basis.specs.Words.{word}
use Rattle.position.specs.Place.{given}
use Rattle.position.specs.declared.Position.{Position}
use Rattle.display.specs.Decimal.{decimal}
use Rattle.display.specs.Forms.{debug_of}
use Rattle.reading.specs.Reading.{Left, entries}
use Rattle.entry.specs.Entries.{numbers_of}
use Rattle.reading.specs.Endings.{Ending}
use Rattle.entry.specs.Kinds as Kind
use Rattle.script.specs.Rules.{document01}
use Rattle.run.specs.Run.{bounds_of, run_of, literals_of, entries_of}

-- a hex digit, lowercase
unfoldable pub hex_digit : ℕ → ℕ
hex_digit d = pick (ltb d 10) (48 + d) (87 + d)

-- the two digits of a byte
unfoldable pub hex_byte : ℕ → List ℕ
hex_byte b = hex_digit (b / 16) ∷ hex_digit (b % 16) ∷ []

-- bytes in hex, one by one
unfoldable pub hexes : List ℕ → List (List ℕ)
hexes [] = []
hexes (b ∷ bs) = hex_byte b ∷ hexes bs

-- bytes in hex, `-` for none
unfoldable pub hex_of : List ℕ → List (List ℕ)
hex_of [] = word "-" ∷ []
hex_of (b ∷ bs) = hexes (b ∷ bs)

-- the kinds by their numbers; 0 is none
unfoldable pub kinds : List (List ℕ)
kinds =
    word "-"
    ∷ word "name"
    ∷ word "keyword"
    ∷ word "symbol"
    ∷ word "number"
    ∷ word "string"
    ∷ word "interpolated"
    ∷ word "text"
    ∷ word "raw"
    ∷ word "char"
    ∷ word "comment"
    ∷ word "reserved"
    ∷ []

unfoldable pub kind_word : ℕ → List ℕ
kind_word k = get_or kinds k (word "-")

-- a token's line: its place, its kind, its bytes
unfoldable pub token_line : Position → ℕ → Bytes → List (List ℕ)
token_line p k bs = debug_of p ∷ word " " ∷ kind_word k ∷ word " " ∷ (hex_of bs ++ (word "\n" ∷ []))

-- the place that an entry's two numbers give: neither is above 65,535
abbrev pub place_at : ℕ → ℕ → Position
place_at l c = given (min l 65535) (min c 65535)

-- so many bytes from an offset on; none where they are not there
unfoldable pub part_at : Bytes → Offset → ℕ → List ℕ
part_at bs at n = pick (leb (at + n) (length bs)) (take n (drop at bs)) []

-- the bytes of an entry: those of literals, from string to char, are packed, and all else is a part of the script
unfoldable pub token_bytes : Text → Bytes → ℕ → Offset → ℕ → List ℕ
token_bytes t ls k at n = part_at (pick (both (leb (kind_number Kind.string) k) (leb k (kind_number Kind.char))) ls t) at n

-- the line of the entry that five numbers make: kind, line, position, offset, length
unfoldable pub entry_line : Text → Bytes → List ℕ → List (List ℕ)
entry_line t ls es = token_line (place_at (get_or es 1 0) (get_or es 2 0)) (get_or es 0 0) (token_bytes t ls (get_or es 0 0) (get_or es 3 0) (get_or es 4 0))

-- the lines of so many entries
unfoldable pub entries_lines : Text → Bytes → ℕ → List ℕ → List (List ℕ)
entries_lines t ls zero es = []
entries_lines t ls (suc n) es = entry_line t ls es ++ entries_lines t ls n (drop 5 es)

-- the last line
unfoldable pub ending_line : Ending → List (List ℕ)
ending_line (Ok p) = word "end " ∷ debug_of p ∷ word "\n" ∷ []
ending_line (Err f) = word "stop " ∷ decimal (number_of f.error) ∷ word " " ∷ debug_of f.place ∷ word "\n" ∷ []

-- all lines of a run that leaves this, where the memory lent for literal bytes and for entries was ls and es
unfoldable pub left_lines : Text → Bytes → List ℕ → Left → List (List ℕ)
left_lines t ls es l = entries_lines t (literals_of l ls) (length (entries l.tokens)) (entries_of numbers_of l es) ++ ending_line l.ending

-- a run under the empty book, with no limit
unfoldable pub run_lines : Text → Bytes → List ℕ → List (List ℕ)
run_lines t ls es = left_lines t ls es (run_of document01 (bounds_of 5 0 (length ls) (length es)) t (0 ∷ 0 ∷ []))

-- the listing: 32,768 literal bytes and 1,800 entries; a script of more than 32,768 bytes is not run
unfoldable pub listing_of : Text → List (List ℕ)
listing_of t = pick (ltb 32768 (length t)) (word "stop 2 1\n" ∷ []) (run_lines t (replicate 32768 0) (replicate 9000 0))
