-- How many numbers the rows have, and what the row of a recorded token is. Assumes nothing.
use Prim.Native.Nat.{ℕ}
use mathlib.Core.List.{List}
use mathlib.Core.Path.{◌≡◌, refl}
use lib.ListN.{length}
use Rattle.position.specs.Place.{given}
use Rattle.position.specs.declared.Position.{Position}
use Rattle.token_ends.specs.Ends.{record_token_of}
use Rattle.token_ends.specs.Told.{told}
use Rattle.token_ends.specs.Answer.{Recorded}
use Rattle.token_ends.specs.declared.TokenEnds.{TokenEnds}
use Rattle.c_places.specs.Rows.{place_row, pair_row, places_row, end_numbers, ends_given, record_row}

pub place_long : (l c : ℕ) → length (place_row l c) ≡ 8
unfolding place_row
place_long l c = refl

pub places_long : (l c m d : ℕ) → length (places_row l c m d) ≡ 5
unfolding pair_row places_row
places_long l c m d = refl

pub record_long : (token l c : ℕ) (e : TokenEnds) → length (record_row token l c e) ≡ 3
unfolding record_row
record_long token l c e = refl

-- the row of what the calls tell
module _ (token l c m d n k : ℕ) {p q o : Position} {s : Recorded} {r : List ℕ} where
  pub record_is : p ≡ given l c → q ≡ given m d → o ≡ given n k → s ≡ record_token_of (record { last = q; previous = o }) token p → r ≡ end_numbers (told s) → r ≡ record_row token l c (ends_given m d n k)
  unfolding record_row
  record_is a b e f g = rw (g, f, e, b, a)
