-- An entry as bytes: document 01, "entries cross there as little-endian bytes, four per number".
use Rattle.std.specs.Prelude.{ℕ, List}
use Rattle.numbers.specs.Spell.{spelled}
use Rattle.entry.specs.Entries.{numbers_of}
use Rattle.entry.specs.declared.Entry.{Entry}

-- the five numbers, four bytes each
unfoldable pub entry_bytes : Entry → List ℕ
entry_bytes e = spelled 4 (numbers_of e)
