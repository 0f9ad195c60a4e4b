-- A stepping stone of the code, and no part of what is promised: a character of two bytes or more, by its bits.
use Rattle.std.specs.Prelude.{ℕ, zero, suc, ◌+◌, ◌-◌, ◌*◌, [], ◌∷◌, leb, None}
use Rattle.basis.specs.Types.{Text, Code}
use Rattle.basis.specs.Pick.{pick}
use Rattle.utf8.specs.Table.{◌‥◌, within}
use Rattle.utf8.specs.Encode.{is_scalar}
use Rattle.utf8.specs.Looks.{Look, char_found}

-- the six bits of a further byte; 64 where none stands
abbrev pub bits_of : Text → ℕ
bits_of [] = 64
bits_of (b ∷ bs) = pick (within (0x80 ‥ 0xBF) b) (b - 0x80) 64

-- the bits v, and then those of n further bytes; 0 if one of these is missing
abbrev pub joined_of : ℕ → ℕ → Text → Code
joined_of zero v bs = v
joined_of (suc n) v [] = 0
joined_of (suc n) v (b ∷ bs) = pick (within (0x80 ‥ 0xBF) b) (joined_of n (v * 64 + (b - 0x80)) bs) 0

-- a number as a character of w bytes: a scalar value, no less than the least that takes so many
abbrev pub whole_of : Code → ℕ → Code → Look
whole_of least w c = pick (leb least c) (pick (is_scalar c) (char_found c w) None) None

-- the character of n further bytes
unfoldable pub sized_of : ℕ → ℕ → Code → Text → Look
sized_of n v least bs = whole_of least (n + 1) (joined_of n v bs)
