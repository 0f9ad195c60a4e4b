-- A stepping stone of the code, and no part of what is promised: how wide a character is, by the rows of Table 3-7.
use Rattle.std.specs.Prelude.{ℕ, suc, Bool, true, false, List, [], ◌∷◌, length, None, Some}
use Rattle.basis.specs.Types.{Text}
use Rattle.basis.specs.Pick.{pick, both}
use Rattle.utf8.specs.Table.{Range, within}
use Rattle.utf8.specs.Looks.{Look}

-- the width of a character; 0 where none begins
unfoldable pub width_of : Look → ℕ
width_of (Some (c, w)) = w
width_of None = 0

-- the bytes begin with one of each range
unfoldable pub fits_row : List Range → Text → Bool
fits_row [] bs = true
fits_row (r ∷ rs) [] = false
fits_row (r ∷ rs) (b ∷ bs) = both (within r b) (fits_row rs bs)

-- the width that a row's further bytes make with a first byte; 0 if one of them is missing
abbrev pub row_width : List Range → Text → ℕ
row_width rs bs = pick (fits_row rs bs) (suc (length rs)) 0
