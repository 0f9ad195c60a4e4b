-- The ASCII classes: document 01, "ASCII letters, digits, `_`", and the Rust's functions of these names.
use Rattle.std.specs.Prelude.{ℕ, ◌-◌, Bool, eqb, leb, Option, Some, None}
use Prim.Native.Char.{code}
use Rattle.basis.specs.Types.{Code}
use Rattle.basis.specs.Pick.{pick, either}
use Rattle.utf8.specs.Table.{◌‥◌, within}

-- a digit
unfoldable pub is_numeric_digit : Code → Bool
is_numeric_digit c = within (code "0" ‥ code "9") c

-- a letter
unfoldable pub is_id_first_alphabetic : Code → Bool
is_id_first_alphabetic c = either (within (code "A" ‥ code "Z") c) (within (code "a" ‥ code "z") c)

-- what an identifier goes on with
unfoldable pub is_id_continue : Code → Bool
is_id_continue c = either (is_id_first_alphabetic c) (either (is_numeric_digit c) (eqb c (code "_")))

-- the value of a hex digit; 16 for what is none
unfoldable pub digit_of : Code → ℕ
digit_of c =
    pick (within (code "0" ‥ code "9") c) (c - code "0")
    (pick (within (code "A" ‥ code "F") c) (c - (code "A" - 10))
    (pick (within (code "a" ‥ code "f") c) (c - (code "a" - 10)) 16))

-- the value of a hex digit, where it is one
unfoldable pub hex_digit : Code → Option ℕ
hex_digit c = pick (leb 16 (digit_of c)) None (Some (digit_of c))
