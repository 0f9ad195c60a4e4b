-- Bytes put into memory that a caller lends: whole, or not at all.
use Rattle.std.specs.Prelude.{ℕ, ◌+◌, Bool, List, ◌++◌, ◌≡◌, leb, length, drop}
use Rattle.std.proofs.lemmas.List.Edits.{sets}
use Rattle.basis.specs.Types.{Bytes, Offset}
use Rattle.basis.specs.Pick.{pick}

-- the bytes xs have room in the memory l from the index i on
unfoldable pub fits : Bytes → Offset → Bytes → Bool
fits l i xs = leb (i + length xs) (length l)

-- the memory with xs from the index i on, where they have room; else as it was
unfoldable pub stored : Bytes → Offset → Bytes → Bytes
stored l i xs = pick (fits l i xs) (sets l i xs) l

-- the index after them, where they have room; else the index given
unfoldable pub after : Bytes → Offset → Bytes → Offset
after l i xs = pick (fits l i xs) (i + length xs) i

-- the bytes xs in front, and the old rest behind them
abbrev pub over : Bytes → Bytes → Bytes
over xs old = xs ++ drop (length xs) old

-- what is known after a store that had room: in the memory l, the bytes xs, n of them, stand from the index i on; r is the index after them and l' the memory now
pub record Stored (l : List ℕ) (i n : ℕ) (xs : List ℕ) (r : ℕ) (l' : List ℕ) : Type 0 where
  pub count : length xs ≡ n
  pub next : r ≡ i + n
  pub memory : l' ≡ sets l i xs
