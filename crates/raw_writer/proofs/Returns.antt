-- Bodies and what is written of them, and the refusals in their order. Assumes nothing.
use Rattle.lex_error.specs.declared.LexError.TheVariants.{NoLiteralRoom, NotUtf8}
use Rattle.std.specs.Prelude.{Err, Ok}
use mathlib.Core.List.{[], ◌∷◌, ◌++◌}
use mathlib.Core.Path.{◌≡◌, refl}
use lib.ListN.{replicate}
use Rattle.basis.specs.Words.{word}
use Rattle.utf8.specs.Table.{look, well_from, well}
use Rattle.lent.specs.Written.{written_of, left_of}
use Rattle.raw_writer.specs.Writer.{hashes_ahead, most_after_quote, hashes_for, raw_literal_of, raw_write_of, raw_left_of}
use Rattle.door.specs.Door.{text_of}

-- a hash that follows no quote wants none more, nor does a quote that no hash follows
pub literals :
    (raw_literal_of [] ≡ word "#\"\"#")
    × (raw_literal_of (word "a") ≡ word "#\"a\"#")
    × (raw_literal_of (word "\"") ≡ word "#\"\"\"#")
    × (raw_literal_of (word "##") ≡ word "#\"##\"#")
    × (raw_literal_of (word "a#\"b") ≡ word "#\"a#\"b\"#")
    × (raw_literal_of (word "\"#") ≡ word "##\"\"#\"##")
    × (raw_literal_of (word "\"##") ≡ word "###\"\"##\"###")
    × (raw_literal_of (word "\"##\"#") ≡ word "###\"\"##\"#\"###")
    × (raw_literal_of (word "\"\"#") ≡ word "##\"\"\"#\"##")
unfolding word hashes_ahead most_after_quote hashes_for raw_literal_of
literals = (refl, refl, refl, refl, refl, refl, refl, refl, refl)

-- what is not UTF-8 is 1 before 9; the rest of a larger room stays; a room one byte short is 9, and untouched
pub answers :
    (raw_write_of (0x80 ∷ []) [] ≡ Err NotUtf8)
    × (raw_write_of [] (replicate 3 7) ≡ Err NoLiteralRoom)
    × (raw_left_of [] (replicate 3 7) ≡ replicate 3 7)
    × (raw_write_of [] (replicate 4 7) ≡ Ok 4)
    × (raw_left_of [] (replicate 6 7) ≡ word "#\"\"#" ++ replicate 2 7)
unfolding word look well_from well written_of left_of hashes_ahead most_after_quote hashes_for raw_literal_of text_of raw_write_of raw_left_of
answers = (refl, refl, refl, refl, refl)
