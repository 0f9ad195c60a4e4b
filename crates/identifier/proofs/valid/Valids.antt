-- Valid identifiers byte by byte, for each way through the loops. Assumes nothing.
use Prim.Native.Nat.{ℕ, ◌+◌, ◌≤◌, ◌<◌}
use mathlib.Core.Bool.{true, false}
use mathlib.Core.List.{List}
use mathlib.Core.Path.{◌≡◌}
use lib.ListN.{length, get_or, drop}
use borrow.Author.Tests.{eq-eqb, ne_eqb}
use Rattle.basis.proofs.Bytes.{here, past}
use Rattle.classes.specs.Class.{is_id_first_alphabetic, is_id_continue}
use Rattle.identifier.specs.Valid.{after_underscores, all_continue, letter_first, is_valid_identifier}

module _ (w : List ℕ) (i : ℕ) where
  module _ (h : i < length w) where
    -- an underscore is passed, and any other byte is where the underscores end
    pub underscore : get_or w i 0 ≡ 0x5F → after_underscores (drop i w) ≡ after_underscores (drop (i + 1) w)
    unfolding after_underscores
    underscore e = rw (here w i h, eq-eqb (get_or w i 0) 0x5F e)

    pub no_underscore : (get_or w i 0 ≡ 0x5F → ⊥) → after_underscores (drop i w) ≡ drop i w
    unfolding after_underscores
    no_underscore n = rw (here w i h, ne_eqb (get_or w i 0) 0x5F n)

    -- a byte that goes on is passed, and any other decides
    pub on : is_id_continue (get_or w i 0) ≡ true → all_continue (drop i w) ≡ all_continue (drop (i + 1) w)
    unfolding all_continue
    on y = rw (here w i h, y)

    pub off : is_id_continue (get_or w i 0) ≡ false → all_continue (drop i w) ≡ false
    unfolding all_continue
    off n = rw (here w i h, n)

    -- a letter first, or none
    pub letter : drop i w ≡ after_underscores w → is_id_first_alphabetic (get_or w i 0) ≡ true → is_valid_identifier w ≡ all_continue (drop (i + 1) w)
    unfolding is_valid_identifier letter_first
    letter e y = rw (← e, here w i h, y)

    pub no_letter : drop i w ≡ after_underscores w → is_id_first_alphabetic (get_or w i 0) ≡ false → is_valid_identifier w ≡ false
    unfolding is_valid_identifier letter_first
    no_letter e n = rw (← e, here w i h, n)

  module _ (h : length w ≤ i) where
    pub all_underscores : after_underscores (drop i w) ≡ drop i w
    unfolding after_underscores
    all_underscores = rw (past w i h)

    pub all_on : all_continue (drop i w) ≡ true
    unfolding all_continue
    all_on = rw (past w i h)

    pub nothing_left : drop i w ≡ after_underscores w → is_valid_identifier w ≡ false
    unfolding is_valid_identifier letter_first
    nothing_left e = rw (← e, past w i h)
