-- The examples of the Unicode standard (Table 3-4 and definition D92), computed by the definitions.
-- Assumes nothing.
use Prim.Native.Nat.{ℕ}
use mathlib.Core.Bool.{true, false}
use mathlib.Core.List.{List, [], ◌∷◌}
use mathlib.Core.Path.{◌≡◌, refl}
use Rattle.utf8.specs.Table.{look, chars_from, chars, codes, well_from, well}
use Rattle.utf8.specs.Encode.{encode, encode_all}

-- a letter of each width
abbrev letters : List ℕ
letters = 0x004D ∷ 0x0430 ∷ 0x4E8C ∷ 0x10302 ∷ []

abbrev bytes : List ℕ
bytes = 0x4D ∷ 0xD0 ∷ 0xB0 ∷ 0xE4 ∷ 0xBA ∷ 0x8C ∷ 0xF0 ∷ 0x90 ∷ 0x8C ∷ 0x82 ∷ []

letters_encoded : encode_all letters ≡ bytes
unfolding encode_all encode
letters_encoded = refl

letters_decoded : codes (chars bytes) ≡ letters
unfolding codes chars chars_from look
letters_decoded = refl

letters_well : well bytes ≡ true
unfolding well well_from look
letters_well = refl

-- ill formed: two overlong sequences, a surrogate, and one past the last code point
overlong_two : well (0xC0 ∷ 0xAF ∷ []) ≡ false
unfolding well well_from look
overlong_two = refl

overlong_three : well (0xE0 ∷ 0x9F ∷ 0x80 ∷ []) ≡ false
unfolding well well_from look
overlong_three = refl

surrogate : well (0xED ∷ 0xA0 ∷ 0x80 ∷ []) ≡ false
unfolding well well_from look
surrogate = refl

beyond : well (0xF4 ∷ 0x90 ∷ 0x80 ∷ 0x80 ∷ []) ≡ false
unfolding well well_from look
beyond = refl
