-- The lookup by halving, in any book, good or bad. In a good book it is the lookup of Lookup.antt (proofs/Holds.antt, `halved`).
use Rattle.std.specs.Prelude.{ℕ, Option, None, Some}
use Rattle.basis.specs.Types.{Text, Bytes}
use Rattle.book.specs.Contents.{BookWord, word_at}
use Rattle.book_lookup.specs.Seek.{sought_of}
use Rattle.book_lookup.specs.Lookup.{hit_answer}
use Rattle.book_lookup.specs.declared.Reserved.{Reserved}

-- the entry at the place found
unfoldable pub sought_hit : Bytes → Option ℕ → Option BookWord
sought_hit book (Some k) = Some (word_at book k)
sought_hit book None = None

-- the answer, by halving
unfoldable pub halved_of : Bytes → Text → Option Reserved
halved_of book w = hit_answer (sought_hit book (sought_of book w))
