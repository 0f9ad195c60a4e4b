-- How many parts an entry takes: five numbers, or twenty bytes.
use Rattle.std.specs.Prelude.{◌≡◌, refl, length}
use Rattle.numbers.proofs.Rows.{length_spelled}
use Rattle.entry.specs.Entries.{numbers_of}
use Rattle.entry.specs.declared.Entry.{Entry}
use Rattle.run.specs.Bytes.{entry_bytes}

pub five : (e : Entry) → length (numbers_of e) ≡ 5
unfolding numbers_of
five e = refl

pub twenty : (e : Entry) → length (entry_bytes e) ≡ 20
unfolding entry_bytes numbers_of
twenty e = length_spelled 4 (numbers_of e)
