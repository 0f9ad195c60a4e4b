-- The library's test for ASCII is the definition's. Assumes nothing.
use Prim.Native.Nat.{ℕ, zero, suc, ◌<◌, ◌≤◌}
use native.Mathlib.Omega.{arith}
use mathlib.Core.Bool.{Bool, true, false}
use mathlib.Core.List.{List, [], ◌∷◌}
use mathlib.Core.Path.{◌≡◌, refl, sym}
use lib.Dec.{leb}
use lib.ListN.{get_or}
use borrow.Author.Tests.{le-leb, lt-leb}
use Rattle.std.specs.Bool.{MatchBool}
use Rattle.std.specs.Str.{IsAscii, IsNotAscii}
use Rattle.basis.specs.Pick.{both}
use Rattle.book.specs.Book.{ascii}

all_plain : (t : List ℕ) → IsAscii t → ascii t ≡ true
unfolding ascii
all_plain [] h = refl
all_plain (b ∷ bs) h = let l : b < 128 = h 0 in rw (le-leb b 0x7F (omega arith)) (all_plain bs (λ i. h (suc i)))

not_plain : (t : List ℕ) (i : ℕ) → 128 ≤ get_or t i 0 → ascii t ≡ false
unfolding ascii
not_plain [] i h = absurd (omega arith)
not_plain (b ∷ bs) zero h = rw (lt-leb b 0x7F (omega arith))
not_plain (b ∷ bs) (suc i) h = go (leb b 0x7F) (not_plain bs i h)
  where
    go : (t : Bool) → ascii bs ≡ false → both t (ascii bs) ≡ false
    go true p = p
    go false p = refl

pub is_plain : (t : List ℕ) (r : Bool) → MatchBool r (IsAscii t) (IsNotAscii t) → r ≡ ascii t
is_plain t true h = sym (all_plain t h)
is_plain t false h = sym (not_plain t h.0 h.1)
