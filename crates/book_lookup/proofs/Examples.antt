-- Worked examples of the lookups, in the books of the check's examples. Assumes nothing.
use mathlib.Core.Bool.{Bool, true, false}
use mathlib.Core.List.{[], ◌∷◌, map}
use mathlib.Core.Path.{◌≡◌, refl}
use Rattle.std.specs.Prelude.{None, Some}
use Rattle.book_lookup.specs.declared.Reserved.{Reserved}
use Rattle.basis.specs.Words.{word}
use Rattle.book.specs.Order.{same}
use Rattle.book.proofs.Examples.{book_computes, house, office, one}
use Rattle.book_lookup.specs.Lookup.{first_hit, is_a, is_b, flags_answer, hit_answer, reserved_of, either_book, holder_of, held_part, held_place, found_part, found_place}

-- a, and a and b
abbrev says : Bool → Bool → Reserved
says a ab = record { a = a; ab = ab }

-- what the two books answer
pub house_says : map (reserved_of house) (word "_1" ∷ word "goto" ∷ word "go" ∷ word "is" ∷ [] ∷ []) ≡ Some (says true false) ∷ Some (says true true) ∷ None ∷ None ∷ None ∷ []
unfolding book_computes same first_hit is_a is_b flags_answer hit_answer reserved_of
house_says = refl

pub office_says : map (reserved_of office) (word "goto" ∷ word "is" ∷ word "_1" ∷ []) ≡ Some (says false false) ∷ Some (says false false) ∷ None ∷ []
unfolding book_computes same first_hit is_a is_b flags_answer hit_answer reserved_of
office_says = refl

-- a bad book finds nothing, though the word stands in it
pub bad_says : reserved_of (one 1 0 (word "ab")) (word "a") ≡ None
unfolding book_computes same first_hit is_a is_b flags_answer hit_answer reserved_of
bad_says = refl

-- both books hold `goto`, each holds one word of its own, and neither holds `let`
pub parts : map (found_part house office) (word "goto" ∷ word "_1" ∷ word "is" ∷ word "let" ∷ []) ≡ word "goto" ∷ word "_1" ∷ word "is" ∷ [] ∷ []
unfolding book_computes same first_hit either_book holder_of held_part found_part
parts = refl

-- the house book in block 7 at 100, the office's in block 8 at 200
pub places : map (found_place (7, 100) (8, 200) house office) (word "goto" ∷ word "_1" ∷ word "is" ∷ word "let" ∷ []) ≡ (7, 112) ∷ (7, 110) ∷ (8, 214) ∷ (7, 100) ∷ []
unfolding book_computes same first_hit either_book holder_of held_place found_place
places = refl

-- one bad book of the two: nothing, though the other holds the word
pub bad_part : found_part (0 ∷ []) office (word "is") ≡ []
unfolding book_computes same first_hit either_book holder_of held_part found_part
bad_part = refl
