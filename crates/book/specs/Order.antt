-- Texts compared by bytes: the order in which a word book's words rise (document 01, Word book).
use Rattle.std.specs.Prelude.{Bool, [], ◌∷◌, ltb}
use Rattle.std.specs.declared.cmp.Ordering.{Ordering}
use Rattle.std.specs.declared.cmp.Ordering.TheVariants.{Less, Equal, Greater}
use Rattle.std.specs.Ordering.{is_lt, is_eq}
use Rattle.basis.specs.Types.{Text}
use Rattle.basis.specs.Pick.{pick}

-- how the first text stands to the second: the first byte that differs decides, and a proper front is less than the whole
unfoldable pub compared : Text → Text → Ordering
compared [] [] = Equal
compared [] (y ∷ ys) = Less
compared (x ∷ xs) [] = Greater
compared (x ∷ xs) (y ∷ ys) = pick (ltb x y) Less (pick (ltb y x) Greater (compared xs ys))

-- the first text is below the second
unfoldable pub below : Text → Text → Bool
below xs ys = is_lt (compared xs ys)

-- the two texts are the same
unfoldable pub same : Text → Text → Bool
same xs ys = is_eq (compared xs ys)
