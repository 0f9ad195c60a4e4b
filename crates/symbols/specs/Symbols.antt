-- The longest listed symbol at a place. Document 01, "Run": "else the longest listed symbol, `!in` only if no identifier character follows".
use Rattle.std.specs.Prelude.{Bool, false, List, [], ◌∷◌, eqb, ltb, length, get_or, drop, None, Some}
use Rattle.basis.specs.Types.{Text, Offset}
use Rattle.basis.specs.Pick.{pick, both, isnt}
use Rattle.classes.specs.Class.{is_id_first_alphabetic, is_id_continue}
use Rattle.token.specs.Tokens as Token
use Rattle.token.specs.Keywords.{KeywordEntry, keywords}
use Rattle.basis.specs.Words.{begins}
use Rattle.symbols.specs.Found.{Longest, symbol_as}

-- a listed text that is a symbol: its first byte is no letter
unfoldable pub is_symbol : Text → Bool
is_symbol [] = false
is_symbol (b ∷ w) = isnt (is_id_first_alphabetic b)

-- a place's text is a symbol that the bytes s begin with; `!in` only if no identifier character follows
unfoldable pub stands : Text → KeywordEntry → Bool
stands s e = both (is_symbol e.text) (both (begins e.text s) (isnt (both (eqb e.token Token.NotIn) (is_id_continue (get_or s (length e.text) 0)))))

-- a place's token and the length of its text, where it stands
unfoldable pub standing : Text → KeywordEntry → Longest
standing s e = pick (stands s e) (symbol_as e.token (length e.text)) None

-- the longer of two; the first where they are equally long
unfoldable pub longer : Longest → Longest → Longest
longer None b = b
longer (Some (t, n)) None = symbol_as t n
longer (Some (t, n)) (Some (u, m)) = pick (ltb n m) (symbol_as u m) (symbol_as t n)

-- the longest that stands, of all places
unfoldable pub longest_in : List KeywordEntry → Text → Longest
longest_in [] s = None
longest_in (e ∷ es) s = longer (standing s e) (longest_in es s)

-- the longest listed symbol at the front of a text
unfoldable pub longest_of : Text → Longest
longest_of s = longest_in keywords s

-- and at an offset of it; nothing at its end and past it
unfoldable pub longest_symbol_of : Text → Offset → Longest
longest_symbol_of text at = longest_of (drop at text)
