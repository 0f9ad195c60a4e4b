-- Numbers as little-endian bytes, alone and in a row: document 01, "entries cross there as little-endian bytes, four per number".
use Rattle.std.specs.Prelude.{ℕ, zero, suc, ◌+◌, ◌*◌, ◌/◌, ◌%◌, List, [], ◌∷◌, ◌++◌}
use Rattle.basis.specs.Types.{Bytes}

-- a number in w bytes, the lowest first; what w bytes cannot hold is left out
unfoldable pub spell : ℕ → ℕ → Bytes
spell zero n = []
spell (suc w) n = n % 256 ∷ spell w (n / 256)

-- a row of numbers, w bytes each
unfoldable pub spelled : ℕ → List ℕ → Bytes
spelled w [] = []
spelled w (n ∷ ns) = spell w n ++ spelled w ns

-- the number that little-endian bytes are
unfoldable pub value : Bytes → ℕ
value [] = 0
value (b ∷ bs) = b + value bs * 256
