-- Quoted words as bytes, so that a definition can be held beside the page that it carries; and what a text begins with.
use Prim.Native.Char.{code}
use Prim.Native.String.{String}
use Rattle.std.specs.Prelude.{Bool, true, false, [], ◌∷◌, eqb}
use Rattle.basis.specs.Types.{Text}
use Rattle.basis.specs.Pick.{both}

-- the code points of a quoted word: for ASCII, its bytes
unfoldable pub word : String → Text
word Prim.Native.String.[] = []
word (Prim.Native.String.◌∷◌ c s) = code c ∷ word s

-- the bytes s begin with the word w: the Rust's `starts_with`
unfoldable pub begins : Text → Text → Bool
begins [] s = true
begins (a ∷ w) [] = false
begins (a ∷ w) (b ∷ s) = both (eqb a b) (begins w s)
