-- UTF-8 as Unicode's Table 3-6 prints it: the bytes of a scalar value.
use Rattle.std.specs.Prelude.{◌+◌, ◌/◌, ◌%◌, Bool, true, List, [], ◌∷◌, ◌++◌, leb, ltb}
use Rattle.basis.specs.Types.{Text, Code}
use Rattle.basis.specs.Pick.{pick, both, either}

-- scalar values: the code points but for the surrogates
unfoldable pub is_scalar : Code → Bool
is_scalar c = either (ltb c 0xD800) (both (leb 0xE000 c) (ltb c 0x110000))

-- Table 3-6: the bits of a scalar value, six to each further byte
unfoldable pub encode : Code → Text
encode c =
    pick (ltb c 0x80) (c ∷ [])
    (pick (ltb c 0x800) ((0xC0 + c / 64) ∷ (0x80 + c % 64) ∷ [])
    (pick (ltb c 0x10000) ((0xE0 + c / 64 / 64) ∷ (0x80 + c / 64 % 64) ∷ (0x80 + c % 64) ∷ [])
    ((0xF0 + c / 64 / 64 / 64) ∷ (0x80 + c / 64 / 64 % 64) ∷ (0x80 + c / 64 % 64) ∷ (0x80 + c % 64) ∷ [])))

-- what is written for a number: the encoding of a scalar value, else nothing
unfoldable pub encoded : Code → Text
encoded c = pick (is_scalar c) (encode c) []

-- the encodings of some numbers, one after the other
unfoldable pub encode_all : List Code → Text
encode_all [] = []
encode_all (c ∷ cs) = encode c ++ encode_all cs

-- all of them are scalar values
unfoldable pub all_scalar : List Code → Bool
all_scalar [] = true
all_scalar (c ∷ cs) = both (is_scalar c) (all_scalar cs)
