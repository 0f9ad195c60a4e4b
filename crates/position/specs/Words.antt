-- What std's `{}` and `{:?}` print of a place: Display and Debug of types/position.rs.
use Rattle.std.specs.Prelude.{List, ℕ, ◌++◌, codes, decimal}
use Rattle.basis.specs.Pick.{pick}
use Rattle.position.specs.Place.{line_number, column_number, is_none, begins_line}
use Rattle.position.specs.declared.Position.{Position}

-- "none", "line 3, position 7"
abbrev pub display_words : Position → List ℕ
display_words p =
    pick (is_none p) (codes "none")
    (codes "line " ++ decimal (line_number p) ++ codes ", position " ++ decimal (column_number p))

-- "none", "3", "3:7"
abbrev pub debug_words : Position → List ℕ
debug_words p =
    pick (is_none p) (codes "none")
    (pick (begins_line p) (decimal (line_number p))
    (decimal (line_number p) ++ codes ":" ++ decimal (column_number p)))
