-- Worked examples of the check: good books, and a bad book for each way to be bad. Assumes nothing.
use Prim.Native.Nat.{ℕ}
use mathlib.Core.Bool.{true, false}
use mathlib.Core.List.{List, [], ◌∷◌, map}
use mathlib.Core.Path.{◌≡◌, refl}
use Rattle.basis.specs.Words.{word}
use Rattle.book.specs.Order.{compared, below}
use Rattle.book.specs.Contents.{u16_at, word_count, start_at, size_at, word_at, words_from, words, enough}
use Rattle.lex_error.specs.Numbers.{told_number}
use Rattle.book.specs.Book.{few, runs_on, ascii, sized, flagged, fit, all_fit, below_next, rising, good, check_of}

-- what an example of a book computes with: to unfold this is to unfold all that its line names
unfoldable pub book_computes : Unit {0}
unfolding word compared below u16_at word_count start_at size_at word_at words_from words enough few runs_on ascii sized flagged fit all_fit below_next rising good check_of
book_computes = tt

-- the empty book
abbrev pub empty : List ℕ
empty = 0 ∷ 0 ∷ []

-- `_1` with a, and `goto` with a and b
abbrev pub house : List ℕ
house = 2 ∷ 0 ∷ 0 ∷ 0 ∷ 2 ∷ 1 ∷ 2 ∷ 0 ∷ 4 ∷ 3 ∷ word "_1goto"

-- `goto` with no flag, and `is` with b alone
abbrev pub office : List ℕ
office = 2 ∷ 0 ∷ 0 ∷ 0 ∷ 4 ∷ 0 ∷ 4 ∷ 0 ∷ 2 ∷ 2 ∷ word "gotois"

-- a book of one word, and one of two
abbrev pub one : ℕ → ℕ → List ℕ → List ℕ
one size flags body = 1 ∷ 0 ∷ 0 ∷ 0 ∷ size ∷ flags ∷ body

abbrev pub two : ℕ → ℕ → ℕ → List ℕ → List ℕ
two size offset more body = 2 ∷ 0 ∷ 0 ∷ 0 ∷ size ∷ 0 ∷ offset ∷ 0 ∷ more ∷ 0 ∷ body

-- good books: none, one and two words, the longest word, a word and its front
abbrev pub goods : List (List ℕ)
goods = empty ∷ house ∷ office ∷ one 10 3 (word "abcdefghij") ∷ one 1 0 (0x7F ∷ []) ∷ two 1 1 2 (word "aab") ∷ []

pub good_books : map (λ b. told_number (check_of b)) goods ≡ 0 ∷ 0 ∷ 0 ∷ 0 ∷ 0 ∷ 0 ∷ []
unfolding book_computes
good_books = refl

-- bad books of no count, half a count, a row cut short, a body cut short
abbrev pub shorts : List (List ℕ)
shorts = [] ∷ (0 ∷ []) ∷ (1 ∷ 0 ∷ 0 ∷ 0 ∷ 1 ∷ []) ∷ one 2 0 (word "a") ∷ []

-- a byte over, with no words and with one
abbrev pub longs : List (List ℕ)
longs = (0 ∷ 0 ∷ 0 ∷ []) ∷ one 1 0 (word "ab") ∷ []

-- a gap before the first body, a gap and an overlap before the second
abbrev pub gaps : List (List ℕ)
gaps = (1 ∷ 0 ∷ 1 ∷ 0 ∷ 1 ∷ 0 ∷ word "ab") ∷ two 1 2 1 (word "axb") ∷ two 2 1 2 (word "abc") ∷ []

-- length 0 and 11, flag 4, a byte above 7F
abbrev pub unfits : List (List ℕ)
unfits = one 0 0 [] ∷ one 11 0 (word "abcdefghijk") ∷ one 1 4 (word "a") ∷ one 1 0 (0x80 ∷ []) ∷ []

-- equal words, falling words, a word behind one that it is the front of
abbrev pub unsorted : List (List ℕ)
unsorted = two 1 1 1 (word "aa") ∷ two 1 1 1 (word "ba") ∷ two 2 2 1 (word "aba") ∷ []

pub bad_books : map (map (λ b. told_number (check_of b))) (shorts ∷ longs ∷ gaps ∷ unfits ∷ unsorted ∷ [])
    ≡ (14 ∷ 14 ∷ 14 ∷ 14 ∷ []) ∷ (14 ∷ 14 ∷ []) ∷ (14 ∷ 14 ∷ 14 ∷ []) ∷ (14 ∷ 14 ∷ 14 ∷ 14 ∷ []) ∷ (14 ∷ 14 ∷ 14 ∷ []) ∷ []
unfolding book_computes
bad_books = refl

-- 512 words are few enough, 513 are not
pub most_words : map few ((0 ∷ 2 ∷ []) ∷ (1 ∷ 2 ∷ []) ∷ []) ≡ true ∷ false ∷ []
unfolding u16_at word_count few
most_words = refl
