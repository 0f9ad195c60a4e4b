-- The encoding of a number, by how many bytes it has, and the scalar values by their bounds.
-- Assumes nothing.
use Prim.Native.Nat.{ℕ, ◌+◌, ◌/◌, ◌%◌, ◌≤◌, ◌<◌}
use native.Mathlib.Omega.{arith}
use mathlib.Core.Bool.{true, false}
use mathlib.Core.List.{[], ◌∷◌}
use mathlib.Core.Logic.{⊎_elim}
use mathlib.Core.Path.{◌≡◌}
use lib.ListN.{length}
use borrow.Author.Tests.{lt-ltb, le-ltb, le-leb, lt-leb}
use Rattle.basis.proofs.Bounds.{not_below, below, split}
use Rattle.basis.proofs.Cases.{not_both}
use Rattle.utf8.specs.Encode.{is_scalar, encode, encoded}

-- one, two, three and four bytes
pub enc1 : (c : ℕ) → c < 0x80 → encode c ≡ c ∷ []
unfolding encode
enc1 c g = rw (lt-ltb c 0x80 g)

pub enc2 : (c : ℕ) → 0x80 ≤ c → c < 0x800 → encode c ≡ (0xC0 + c / 64) ∷ (0x80 + c % 64) ∷ []
unfolding encode
enc2 c h g = rw (le-ltb c 0x80 h, lt-ltb c 0x800 g)

pub enc3 : (c : ℕ) → 0x800 ≤ c → c < 0x10000 → encode c ≡ (0xE0 + c / 64 / 64) ∷ (0x80 + c / 64 % 64) ∷ (0x80 + c % 64) ∷ []
unfolding encode
enc3 c h g = simp (not_below c 0x800 h, below c 0x10000 g, tt {0})

pub enc4 : (c : ℕ) → 0x10000 ≤ c → encode c ≡ (0xF0 + c / 64 / 64 / 64) ∷ (0x80 + c / 64 / 64 % 64) ∷ (0x80 + c / 64 % 64) ∷ (0x80 + c % 64) ∷ []
unfolding encode
enc4 c h = simp (not_below c 0x10000 h, tt {0})

-- scalar values
pub scalar_low : (c : ℕ) → c < 0xD800 → is_scalar c ≡ true
unfolding is_scalar
scalar_low c g = rw (lt-ltb c 0xD800 g)

pub scalar_high : (c : ℕ) → 0xE000 ≤ c → c < 0x110000 → is_scalar c ≡ true
unfolding is_scalar
scalar_high c h g = simp (not_below c 0xE000 h, le-leb 0xE000 c h, lt-ltb c 0x110000 g, tt {0})

-- a surrogate, and what lies beyond the last code point
pub surrogate_no : (c : ℕ) → 0xD800 ≤ c → c < 0xE000 → is_scalar c ≡ false
unfolding is_scalar
surrogate_no c h g = rw (le-ltb c 0xD800 h, lt-leb 0xE000 c g)

pub beyond_no : (c : ℕ) → 0x110000 ≤ c → is_scalar c ≡ false
unfolding is_scalar
beyond_no c h = simp (not_below c 0x110000 h, le-leb 0xE000 c (omega arith), tt {0})

module _ (c : ℕ) (e : is_scalar c ≡ true) where
  pub scalar_small : c < 0x110000
  scalar_small = ⊎_elim (λ g. g) (λ h. not_both e (beyond_no c h)) (split c 0x110000)

  -- past the first surrogate it is past the last
  pub scalar_past : 0xD800 ≤ c → 0xE000 ≤ c
  scalar_past h = ⊎_elim (λ g. not_both e (surrogate_no c h g)) (λ k. k) (split c 0xE000)

  -- what is written for it is its encoding
  pub encoded_scalar : encoded c ≡ encode c
  unfolding encoded
  encoded_scalar = rw e

-- what is written for another number
pub encoded_none : (c : ℕ) → is_scalar c ≡ false → encoded c ≡ []
unfolding encoded
encoded_none c e = rw e

-- an encoding has one to four bytes
pub size_bounds : (c : ℕ) → (1 ≤ length (encode c)) × (length (encode c) ≤ 4)
size_bounds c =
    ⊎_elim (λ g. rw (enc1 c g) (omega arith)) (λ h.
    ⊎_elim (λ g. rw (enc2 c h g) (omega arith)) (λ k.
    ⊎_elim (λ g. rw (enc3 c k g) (omega arith)) (λ m. rw (enc4 c m) (omega arith))
    (split c 0x10000)) (split c 0x800)) (split c 0x80)
