-- The raw writer on bodies of millions of bytes, which no program of the gate can hold: D47 (1) and D48 of docs/DECISIONS.md, for every body of their kind.
use Rattle.lex_error.specs.declared.LexError.TheVariants.{TextTooLong}
use Rattle.std.specs.Prelude.{ℕ, ◌+◌, ◌*◌, ◌≤◌, ◌<◌, List, ◌∷◌, ◌≡◌, length, replicate, Err, Ok}
use Rattle.basis.specs.Store.{over}
use Rattle.raw_writer.specs.Writer.{raw_literal_of, raw_write_of, raw_left_of}
use Rattle.classes.specs.Marks.{quote, hash}

-- a body that is too long is 2, whatever it holds and whatever the room
abbrev pub TooLongFirst : Type 0
TooLongFirst = (body memory : List ℕ) → 16777216 < length body → (raw_write_of body memory ≡ Err TextTooLong) × (raw_left_of body memory ≡ memory)

-- a quote and n hashes are written where there is room for 3 n + 5 bytes, however many these are: 16,777,217 for D48's 5,592,404
abbrev pub LongWritten : Type 0
LongWritten =
    (n : ℕ) (memory : List ℕ)
    → n < 16777216
    → 3 * n + 5 ≤ length memory
    → (raw_write_of (quote ∷ replicate n hash) memory ≡ Ok (3 * n + 5))
    × (raw_left_of (quote ∷ replicate n hash) memory ≡ over (raw_literal_of (quote ∷ replicate n hash)) memory)
