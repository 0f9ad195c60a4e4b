-- How many bytes a character adds, and a character of ASCII written. Assumes nothing.
use Prim.Native.Nat.{ℕ, ◌≤◌, ◌<◌}
use mathlib.Core.Bool.{Bool, true, false}
use mathlib.Core.List.{List, [], ◌∷◌}
use mathlib.Core.Path.{◌≡◌, sym, ◌∙◌}
use native.Mathlib.Omega.{arith}
use lib.ListN.{length, set}
use Rattle.basis.specs.Store.{stored}
use Rattle.basis.proofs.Stores.{stored_whole, stored_none}
use Rattle.utf8.specs.Encode.{is_scalar, encoded}
use Rattle.utf8.proofs.Encodes.{scalar_low, encoded_scalar, encoded_none, enc1, enc2, enc3, enc4}

-- a character of ASCII is its byte
encoded_low : (c : ℕ) → c < 0x80 → encoded c ≡ c ∷ []
encoded_low c h = encoded_scalar c (scalar_low c (omega (arith, h))) ∙ enc1 c h

pub size1 : (c : ℕ) → c < 0x80 → ◌≡◌ {A = ℕ} 1 (length (encoded c))
size1 c h = rw (encoded_low c h)

-- written where it has room
module _ (out : List ℕ) (n c : ℕ) (h : c < 0x80) where
  pub put_low : n < length out → set out n c ≡ stored out n (encoded c)
  put_low l = rw (encoded_low c h, stored_whole out n (c ∷ []) (omega (arith, l)))

  pub put_nowhere : length out ≤ n → out ≡ stored out n (encoded c)
  put_nowhere l = rw (encoded_low c h, stored_none out n (c ∷ []) (omega (arith, l)))

module _ (c : ℕ) {b : Bool} (e : b ≡ is_scalar c) where
  pub size0 : b ≡ false → ◌≡◌ {A = ℕ} 0 (length (encoded c))
  size0 n = rw (encoded_none c (sym e ∙ n))

  module _ (y : b ≡ true) where
    pub size2 : 0x80 ≤ c → c < 0x800 → ◌≡◌ {A = ℕ} 2 (length (encoded c))
    size2 g h = rw (encoded_scalar c (sym e ∙ y), enc2 c g h)

    pub size3 : 0x800 ≤ c → c < 0x10000 → ◌≡◌ {A = ℕ} 3 (length (encoded c))
    size3 g h = rw (encoded_scalar c (sym e ∙ y), enc3 c g h)

    pub size4 : 0x10000 ≤ c → ◌≡◌ {A = ℕ} 4 (length (encoded c))
    size4 h = rw (encoded_scalar c (sym e ∙ y), enc4 c h)
