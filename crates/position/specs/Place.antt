-- Places in a script and their moves: document 01, "Position", and the type Position of types/position.rs.
use Rattle.std.specs.Prelude.{ℕ, zero, suc, ◌+◌, ◌-◌, min, Bool, eqb}
use Rattle.basis.specs.Pick.{pick, both, isnt}
use Rattle.position.specs.declared.Position.{Position}

-- the place at a line and a column
abbrev pub place : ℕ → ℕ → Position
place l c = record { line = l; pos = c }

-- no place: the Rust's NONE
unfoldable pub none : Position
none = place 0 0

-- where a script begins: the Rust's START
unfoldable pub start : Position
start = place 1 0

-- two numbers as they come from outside
unfoldable pub given : ℕ → ℕ → Position
given l c = place l c

-- the numbers of a place, 0 where it has none: the Rust's fields `line` and `pos`
unfoldable pub line_number : Position → ℕ
line_number p = p.line

unfoldable pub column_number : Position → ℕ
column_number p = p.pos

-- the Rust's `is_none`
unfoldable pub is_none : Position → Bool
is_none p = both (eqb p.line 0) (eqb p.pos 0)

-- the place is on a line: its line is not 0
unfoldable pub on_line : Position → Bool
on_line p = isnt (eqb p.line 0)

-- the Rust's `is_beginning_of_line`
unfoldable pub begins_line : Position → Bool
begins_line p = both (eqb p.pos 0) (isnt (is_none p))

-- the Rust's `or_else`
unfoldable pub or_else : Position → Position → Position
or_else p q = pick (is_none p) q p

-- one more, up to 65,535
unfoldable pub up : ℕ → ℕ
up n = min (n + 1) 65535

-- one column on
unfoldable pub advanced : Position → Position
advanced p = place p.line (up p.pos)

-- n columns on, one by one
unfoldable pub advanced_by : ℕ → Position → Position
advanced_by zero p = p
advanced_by (suc n) p = advanced (advanced_by n p)

-- the next line, column 0
unfoldable pub lined : Position → Position
lined p = place (up p.line) 0

-- one column back, column 0 staying
unfoldable pub rewound : Position → Position
rewound p = place p.line (p.pos - 1)
