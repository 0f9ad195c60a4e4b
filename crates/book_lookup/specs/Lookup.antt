-- What a word book answers for a word (document 01, Word book; in the source `is_reserved_keyword_or_symbol`).
use Rattle.std.specs.Prelude.{ℕ, ◌+◌, ◌/◌, ◌%◌, Bool, List, [], ◌∷◌, Option, None, Some, ◌≡◌, ◌⊎◌, eqb}
use Rattle.basis.specs.Types.{Text, Bytes}
use Rattle.basis.specs.Pick.{pick, both}
use Rattle.book.specs.Order.{same}
use Rattle.book.specs.Contents.{BookWord, words}
use Rattle.book.specs.Book.{good}
use Rattle.book_lookup.specs.declared.Reserved.{Reserved}

-- the word stands among the entries
unfoldable pub Stands : Text → List BookWord → Type 0
Stands w [] = ⊥
Stands w (e ∷ es) = (e.text ≡ w) ⊎ Stands w es

-- the first entry that is the word
unfoldable pub first_hit : Text → List BookWord → Option BookWord
first_hit w [] = None
first_hit w (e ∷ es) = pick (same e.text w) (Some e) (first_hit w es)

-- flag 1
unfoldable pub is_a : ℕ → Bool
is_a flags = eqb (flags % 2) 1

-- flag 2
unfoldable pub is_b : ℕ → Bool
is_b flags = eqb (flags / 2 % 2) 1

-- the answer of an entry's flags: a, and a and b
unfoldable pub flags_answer : ℕ → Reserved
flags_answer flags = record { a = is_a flags; ab = both (is_a flags) (is_b flags) }

-- the answer of what was found
unfoldable pub hit_answer : Option BookWord → Option Reserved
hit_answer (Some e) = Some (flags_answer e.flags)
hit_answer None = None

-- the lookup: the answer of the first entry that is the word; a bad book finds nothing
unfoldable pub reserved_of : Bytes → Text → Option Reserved
reserved_of book w = pick (good book) (hit_answer (first_hit w (words book))) None

-- which of two books holds a word
pub data Held : Type 0 where
  in_house : BookWord → Held
  in_office : BookWord → Held
  nowhere : Held

-- the house book first
unfoldable pub either_book : Option BookWord → Option BookWord → Held
either_book (Some e) h = in_house e
either_book None (Some e) = in_office e
either_book None None = nowhere

-- whichever book holds the word; nowhere if either book is bad
unfoldable pub holder_of : Bytes → Bytes → Text → Held
holder_of house office w = pick (both (good house) (good office)) (either_book (first_hit w (words house)) (first_hit w (words office))) nowhere

-- the word's own part: its body, or an empty part
unfoldable pub held_part : Held → Text
held_part (in_house e) = e.text
held_part (in_office e) = e.text
held_part nowhere = []

-- where that part lies, from where the books lie: a memory block and an offset in it. The empty part is the front of the house book
unfoldable pub held_place : ℕ × ℕ → ℕ × ℕ → Held → ℕ × ℕ
held_place hp op (in_house e) = (hp.0, hp.1 + e.start)
held_place hp op (in_office e) = (op.0, op.1 + e.start)
held_place hp op nowhere = hp

-- the lookup over two books: the bytes that it hands back
unfoldable pub found_part : Bytes → Bytes → Text → Text
found_part house office w = held_part (holder_of house office w)

-- and whose they are
unfoldable pub found_place : ℕ × ℕ → ℕ × ℕ → Bytes → Bytes → Text → ℕ × ℕ
found_place hp op house office w = held_place hp op (holder_of house office w)
