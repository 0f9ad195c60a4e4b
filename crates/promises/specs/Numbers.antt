-- Numbers that fit: document 01, "Each entry is five u32: kind, line, position, offset, length", and "entries cross there as little-endian bytes, four per number". So the bytes that `stew_run` leaves tell the whole answer. The statements; their proofs are in proofs/Numbers.antt.
use Rattle.std.specs.Prelude.{ℕ, List, ◌≡◌}
use Rattle.numbers.specs.Spell.{spelled}
use Rattle.reading.specs.Reading.{Left, entries}
use Rattle.reading.specs.declared.Bounds.{Bounds}
use Rattle.script.specs.Rules.{document01}
use Rattle.entry.specs.Entries.{numbers_of, laid_out, U32s}
use Rattle.run.specs.Run.{run_of}
use Rattle.run.specs.Bytes.{entry_bytes}
use Rattle.stew.specs.RunAnswer.{tells}

-- the numbers of the entries, and their bytes
abbrev pub entry_numbers : Left → List ℕ
entry_numbers l = laid_out numbers_of (entries l.tokens)

abbrev pub bytes_of_entries : Left → List ℕ
bytes_of_entries l = laid_out entry_bytes (entries l.tokens)

-- the seven numbers of the answer, and their bytes
abbrev pub answer_numbers : Left → List ℕ
answer_numbers l = tells l

abbrev pub answer_bytes : Left → List ℕ
answer_bytes l = spelled 4 (answer_numbers l)

-- each number of each entry is a u32, and each of the seven
pub record FitsU32 (l : Left) : Type 0 where
  pub entries : U32s (entry_numbers l)
  pub answer : U32s (answer_numbers l)

-- of every run
abbrev pub NumbersFit : Type 0
NumbersFit = (script book : List ℕ) (b : Bounds) → FitsU32 (run_of document01 b script book)

-- equal bytes are equal numbers, of what any two runs leave
pub record TellsApart (l m : Left) : Type 0 where
  pub entries : bytes_of_entries l ≡ bytes_of_entries m → entry_numbers l ≡ entry_numbers m
  pub answer : answer_bytes l ≡ answer_bytes m → answer_numbers l ≡ answer_numbers m

abbrev pub BytesTell : Type 0
BytesTell = (script script' book book' : List ℕ) (b b' : Bounds) → TellsApart (run_of document01 b script book) (run_of document01 b' script' book')
