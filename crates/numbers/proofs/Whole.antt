-- Bytes that hold a number tell it, and worked examples of the definitions. Assumes nothing.
use Prim.Native.Nat.{ℕ, zero, suc, ◌/◌, ◌^◌, ◌<◌}
use native.Mathlib.Omega.{arith}
use native.Mathlib.Nat.{pow-suc, div-lt_iff_lt-mul}
use mathlib.Core.List.{[], ◌∷◌}
use mathlib.Core.Path.{◌≡◌, refl}
use lib.ListN.{replicate}
use Rattle.lent.specs.Written.{left_of}
use Rattle.numbers.specs.Spell.{spell, spelled, value}
use Rattle.numbers.specs.Answer.{short, fitted, answered}

-- w bytes tell each number that they can hold
pub spell_tells : (w n : ℕ) → n < 256 ^ w → value (spell w n) ≡ n
unfolding value spell
spell_tells zero n h = omega arith
spell_tells (suc w) n h =
    let rest : value (spell w (n / 256)) ≡ n / 256 = spell_tells w (n / 256) ((div-lt_iff_lt-mul {k = 256} (omega arith)).1 (rw (pow-suc 256 w) at h)) in
    rw rest (omega arith)

pub record Worked : Type 0 where
  pub two_bytes : spell 2 513 ≡ 1 ∷ 2 ∷ []
  pub cut_off_lem : spell 1 513 ≡ 1 ∷ []
  pub a_row : spelled 2 (7 ∷ 256 ∷ []) ≡ 7 ∷ 0 ∷ 0 ∷ 1 ∷ []
  pub no_room : fitted (3 ∷ []) (0 ∷ []) ≡ 9
  pub with_room : fitted (3 ∷ []) (replicate 8 0) ≡ 0
  pub is_left : answered (3 ∷ []) (5 ∷ []) ≡ 5 ∷ []
  pub in_front : answered (3 ∷ []) (replicate 9 5) ≡ 3 ∷ 0 ∷ 0 ∷ 0 ∷ 0 ∷ 0 ∷ 0 ∷ 0 ∷ 5 ∷ []

pub worked : Worked
unfolding spell spelled short fitted left_of
worked = record { two_bytes = refl; cut_off_lem = refl; a_row = refl; no_room = refl; with_room = refl; is_left = refl; in_front = refl }
