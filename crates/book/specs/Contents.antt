-- The contents of a word book (document 01, Word book): a book as a list of words.
use Rattle.std.specs.Prelude.{ℕ, zero, suc, ◌+◌, ◌*◌, Bool, List, [], ◌∷◌, Option, None, Some, leb, length, get_or, take, drop}
use Rattle.basis.specs.Types.{Text, Bytes, Offset}
use Rattle.basis.specs.Pick.{pick}
use Rattle.book.specs.declared.contents.Row.{Row}

-- a word of a book: where its body starts in the book, its length, its flags, and the body
pub record BookWord : Type 0 where
  pub start : Offset
  pub size : ℕ
  pub flags : ℕ
  pub text : Text

-- the u16 at an index, little endian; a byte past the end reads as 0
unfoldable pub u16_at : Bytes → Offset → ℕ
u16_at book i = get_or book i 0 + 256 * get_or book (i + 1) 0

-- how many words the book says it has
unfoldable pub word_count : Bytes → ℕ
word_count book = u16_at book 0

-- where word k's row of the contents starts: behind the count, four bytes a word
abbrev pub row_at : ℕ → Offset
row_at k = 2 + 4 * k

-- where the bodies start: behind the last row
abbrev pub bodies : Bytes → Offset
bodies book = row_at (word_count book)

-- where word k's body starts in the book: its offset is into the bodies
unfoldable pub start_at : Bytes → ℕ → Offset
start_at book k = bodies book + u16_at book (row_at k)

-- how long word k's body is
unfoldable pub size_at : Bytes → ℕ → ℕ
size_at book k = get_or book (row_at k + 2) 0

-- word k, of a row that holds offset u16, length u8, flags u8
unfoldable pub word_at : Bytes → ℕ → BookWord
word_at book k = record {
  start = start_at book k;
  size = size_at book k;
  flags = get_or book (row_at k + 3) 0;
  text = take (size_at book k) (drop (start_at book k) book);
}

-- n words, from word k on
unfoldable pub words_from : Bytes → ℕ → ℕ → List BookWord
words_from book k zero = []
words_from book k (suc n) = word_at book k ∷ words_from book (k + 1) n

-- THE BOOK AS A LIST OF WORDS: checks and lookups read a book through this
unfoldable pub words : Bytes → List BookWord
words book = words_from book 0 (word_count book)

-- the book has bytes for its count and its contents
unfoldable pub enough : Bytes → Bool
enough book = leb (bodies book) (length book)

-- how many rows the contents have, or none where the book is too short for them
unfoldable pub rows_of : Bytes → Option ℕ
rows_of book = pick (enough book) (Some (word_count book)) None

-- word k's row
unfoldable pub row_of : Bytes → ℕ → Row
row_of book k = record {
  start = (word_at book k).start;
  size = (word_at book k).size;
  flags = (word_at book k).flags;
}
