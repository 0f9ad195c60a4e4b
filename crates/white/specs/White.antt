-- White_Space: document 01, "Characters", which has the eleven entries of the property file in its order.
use Rattle.std.specs.Prelude.{Bool, false, List, [], ◌∷◌}
use Rattle.basis.specs.Types.{Code}
use Rattle.basis.specs.Pick.{either}
use Rattle.utf8.specs.Table.{Range, ◌‥◌, within}
use Rattle.white.specs.declared.Edition.{Edition}
use Rattle.white.specs.declared.Edition.TheVariants.{Later}

-- the entries, first and last code point of each
abbrev pub whites : List Range
whites =
    0x0009 ‥ 0x000D
    ∷ 0x0020 ‥ 0x0020
    ∷ 0x0085 ‥ 0x0085
    ∷ 0x00A0 ‥ 0x00A0
    ∷ 0x1680 ‥ 0x1680
    ∷ 0x2000 ‥ 0x200A
    ∷ 0x2028 ‥ 0x2028
    ∷ 0x2029 ‥ 0x2029
    ∷ 0x202F ‥ 0x202F
    ∷ 0x205F ‥ 0x205F
    ∷ 0x3000 ‥ 0x3000
    ∷ []

-- the number stands in one of the ranges
abbrev pub among_ranges : List Range → Code → Bool
among_ranges [] c = false
among_ranges (r ∷ rs) c = either (within r c) (among_ranges rs c)

-- the character is white
unfoldable pub is_white : Code → Bool
is_white c = among_ranges whites c

-- the character is white by an edition: the later one's entries are these
unfoldable pub white_in : Edition → Code → Bool
white_in Later c = is_white c
