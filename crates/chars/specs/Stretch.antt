-- Stretches: characters of one class that stand one behind the other, which a scanner may pass at once.
use Rattle.utf8.specs.Looks.{char_found}
use Rattle.std.specs.Prelude.{ℕ, ◌+◌, ◌≤◌, ◌<◌, Bool, false, List, ◌≡◌, eqb}
use Rattle.basis.specs.Pick.{either}
use Rattle.utf8.specs.Table.{look_at}

-- from one offset to another by so many characters of a class
pub data StretchOf (t : List ℕ) (of : ℕ → Type 0) (a : ℕ) : ℕ → ℕ → Type 0 where
  none : StretchOf t of a 0 a
  more : {k b c w : ℕ} → StretchOf t of a k b → look_at t b ≡ char_found c w → of c → StretchOf t of a (k + 1) (b + w)

-- a character of the class, w bytes wide, is next and ends by an offset
pub record NextChar (t : List ℕ) (of : ℕ → Type 0) (at stop w : ℕ) : Type 0 where
  pub code : ℕ
  pub found : look_at t at ≡ char_found code w
  pub fits : at + w ≤ stop
  pub is : of code

-- a character is one of five
unfoldable pub among : ℕ → ℕ → ℕ → ℕ → ℕ → ℕ → Bool
among a b d e f c = either (eqb c a) (either (eqb c b) (either (eqb c d) (either (eqb c e) (eqb c f))))

-- all five are ASCII
abbrev pub Low : ℕ → ℕ → ℕ → ℕ → ℕ → Type 0
Low a b d e f = (a < 0x80) × (b < 0x80) × (d < 0x80) × (e < 0x80) × (f < 0x80)

-- a character that is not
abbrev pub High : ℕ → Type 0
High c = 0x80 ≤ c

-- it is none of the five
abbrev pub Other : ℕ → ℕ → ℕ → ℕ → ℕ → ℕ → Type 0
Other a b d e f c = among a b d e f c ≡ false
