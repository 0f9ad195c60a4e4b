-- Valid identifiers, over bytes: the Rust's `is_valid_identifier`; document 01, "underscores, then a letter, then anything allowed".
use Rattle.std.specs.Prelude.{Bool, true, false, [], ◌∷◌, eqb}
use Rattle.basis.specs.Types.{Text}
use Rattle.basis.specs.Pick.{pick, both}
use Rattle.classes.specs.Class.{is_id_first_alphabetic, is_id_continue}
use Rattle.classes.specs.Marks.{underscore}

-- a text without the underscores that it begins with
unfoldable pub after_underscores : Text → Text
after_underscores [] = []
after_underscores (c ∷ cs) = pick (eqb c underscore) (after_underscores cs) (c ∷ cs)

-- every byte goes on an identifier
unfoldable pub all_continue : Text → Bool
all_continue [] = true
all_continue (c ∷ cs) = both (is_id_continue c) (all_continue cs)

-- a letter, then anything allowed
unfoldable pub letter_first : Text → Bool
letter_first [] = false
letter_first (c ∷ cs) = both (is_id_first_alphabetic c) (all_continue cs)

-- underscores, then a letter, then anything allowed
unfoldable pub is_valid_identifier : Text → Bool
is_valid_identifier name = letter_first (after_underscores name)
