-- What `starts_with` says of a text and a word is what the definition says. Assumes nothing.
use Prim.Native.Nat.{ℕ}
use mathlib.Core.Bool.{Bool, true, false, ◌&&◌}
use mathlib.Core.List.{List, [], ◌∷◌}
use mathlib.Core.Path.{◌≡◌, refl, ap, ◌∙◌}
use lib.Dec.{eqb}
use lib.ListN.{length, take}
use Rattle.std.specs.Cmp.Lexicographic.{pointwise}
use Rattle.basis.specs.Pick.{both}
use Rattle.basis.specs.Words.{begins}

both_is : (a b : Bool) → both a b ≡ (a && b)
both_is true b = refl
both_is false b = refl

pub begins_is : (w s : List ℕ) → begins w s ≡ pointwise eqb w (take (length w) s)
unfolding begins
begins_is [] s = refl
begins_is (a ∷ w) [] = refl
begins_is (a ∷ w) (b ∷ s) = both_is (eqb a b) (begins w s) ∙ ap (λ (q : Bool). eqb a b && q) (begins_is w s)
