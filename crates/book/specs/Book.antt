-- What makes a word book a good one (document 01, Word book).
use Rattle.std.specs.Prelude.{◌+◌, Bool, true, List, [], ◌∷◌, leb, eqb, length, Err}
use Rattle.basis.specs.Types.{Text, Bytes, Offset}
use Rattle.basis.specs.Pick.{pick, both}
use Rattle.lex_error.specs.declared.LexError.TheVariants.{BadBook}
use Rattle.lex_error.specs.Numbers.{Asked, no_refusal}
use Rattle.book.specs.Order.{below}
use Rattle.book.specs.Contents.{BookWord, word_count, bodies, words, enough}

-- at most 512 words
unfoldable pub few : Bytes → Bool
few book = leb (word_count book) 512

-- offsets run on from 0, no byte over: the first body starts at `at`, each next one where the one before it ends, and the last ends at `end`
unfoldable pub runs_on : Offset → Offset → List BookWord → Bool
runs_on end at [] = eqb at end
runs_on end at (w ∷ ws) = both (eqb w.start at) (runs_on end (at + w.size) ws)

-- every byte is ASCII
unfoldable pub ascii : Text → Bool
ascii [] = true
ascii (b ∷ bs) = both (leb b 0x7F) (ascii bs)

-- length 1 to 10
unfoldable pub sized : BookWord → Bool
sized w = both (leb 1 w.size) (leb w.size 10)

-- flags 1 and 2, no others
unfoldable pub flagged : BookWord → Bool
flagged w = leb w.flags 3

-- a word with a right length and right flags, in ASCII
unfoldable pub fit : BookWord → Bool
fit w = both (sized w) (both (flagged w) (ascii w.text))

-- every word is fit
unfoldable pub all_fit : List BookWord → Bool
all_fit [] = true
all_fit (w ∷ ws) = both (fit w) (all_fit ws)

-- a word is below the one behind it
unfoldable pub below_next : BookWord → List BookWord → Bool
below_next v [] = true
below_next v (w ∷ ws) = below v.text w.text

-- strictly rising by bytes
unfoldable pub rising : List BookWord → Bool
rising [] = true
rising (w ∷ ws) = both (below_next w ws) (rising ws)

-- a good book
unfoldable pub good : Bytes → Bool
good book =
    both (enough book)
    (both (few book)
    (both (runs_on (length book) (bodies book) (words book))
    (both (all_fit (words book))
    (rising (words book)))))

-- the book check: 14 for a bad word book
unfoldable pub check_of : Bytes → Asked
check_of book = pick (good book) no_refusal (Err BadBook)
