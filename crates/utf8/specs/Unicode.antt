-- What is proved of the definitions in Table.antt and Encode.antt: that the two tables of Unicode agree, and that a boundary is found in constant time.
use Rattle.utf8.specs.Looks.{char_found}
use Rattle.std.specs.Prelude.{ℕ, ◌+◌, ◌≤◌, true, List, ◌≡◌, ◌↔◌, length, take, drop}
use Rattle.utf8.specs.Table.{look_at, chars, codes, well, edge, boundary}
use Rattle.utf8.specs.Encode.{is_scalar, encode, encode_all, all_scalar}

-- a text is well formed by Table 3-7 exactly if it is the encodings, by Table 3-6, of some scalar values one after the other
abbrev pub WellFormedExactly : Type 0
WellFormedExactly = (s : List ℕ) → (well s ≡ true) ↔ ((cs : List ℕ) × (all_scalar cs ≡ true) × (encode_all cs ≡ s))

-- decoding gives back the scalar values that were encoded
abbrev pub DecodedAgain : Type 0
DecodedAgain = (cs : List ℕ) → all_scalar cs ≡ true → codes (chars (encode_all cs)) ≡ cs

-- encoding gives back the well-formed text that was decoded
abbrev pub EncodedAgain : Type 0
EncodedAgain = (s : List ℕ) → well s ≡ true → encode_all (codes (chars s)) ≡ s

-- a character found anywhere is a scalar value
abbrev pub FoundScalar : Type 0
FoundScalar = (s : List ℕ) (at c w : ℕ) → look_at s at ≡ char_found c w → is_scalar c ≡ true

-- its bytes in the text are its encoding
abbrev pub FoundBytes : Type 0
FoundBytes = (s : List ℕ) (at c w : ℕ) → look_at s at ≡ char_found c w → take w (drop at s) ≡ encode c

-- its width is its encoding's length
abbrev pub FoundSize : Type 0
FoundSize = (s : List ℕ) (at c w : ℕ) → look_at s at ≡ char_found c w → length (encode c) ≡ w

-- its width is 1 to 4, and it lies in the text
abbrev pub FoundWidth : Type 0
FoundWidth = (s : List ℕ) (at c w : ℕ) → look_at s at ≡ char_found c w → (1 ≤ w) × (at + w ≤ length s) × (w ≤ 4)

-- in a well-formed text, one byte tells whether a character begins at an offset
abbrev pub BoundaryExactly : Type 0
BoundaryExactly = (s : List ℕ) (at : ℕ) → well s ≡ true → boundary s at ≡ edge (chars s) at
