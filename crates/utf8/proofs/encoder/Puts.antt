-- What is stored for a number: its encoding where that has room; nothing where it has none, or where the number is no scalar value.
-- Assumes nothing.
use Prim.Native.Nat.{ℕ, ◌+◌, ◌≤◌, ◌<◌}
use native.Mathlib.Nat.{add-zero}
use mathlib.Core.Bool.{true, false}
use mathlib.Core.List.{List, []}
use mathlib.Core.Logic.{⊎_elim}
use mathlib.Core.Path.{◌≡◌, sym, ◌∙◌}
use lib.ListN.{length}
use lib.Seq.{sets}
use Rattle.basis.specs.Store.{stored, after}
use Rattle.basis.proofs.Bounds.{split}
use Rattle.basis.proofs.Stores.{stored_whole, after_whole, stored_none, after_none}
use Rattle.utf8.specs.Encode.{is_scalar, encode, encoded}
use Rattle.utf8.proofs.Encodes.{encoded_scalar, encoded_none}

-- no bytes, wherever they go
after_nothing : (l : List ℕ) (at : ℕ) → after l at [] ≡ at
after_nothing l at = ⊎_elim (λ h. after_none l at [] h) (λ h. after_whole l at [] h ∙ add-zero at) (split (length l) (at + 0))

stored_nothing : (l : List ℕ) (at : ℕ) → stored l at [] ≡ l
stored_nothing l at = ⊎_elim (λ h. stored_none l at [] h) (λ h. stored_whole l at [] h) (split (length l) (at + 0))

-- what a writer at an index of a memory l is to answer
module _ (l : List ℕ) (at c : ℕ) where
  module _ (e : is_scalar c ≡ true) where
    pub put_whole : at + length (encode c) ≤ length l → {r : ℕ} {l' : List ℕ} → r ≡ at + length (encode c) → l' ≡ sets l at (encode c)
        → (r ≡ after l at (encoded c)) × (l' ≡ stored l at (encoded c))
    put_whole h p q = (rw (encoded_scalar c e, p) (sym (after_whole l at (encode c) h)), rw (encoded_scalar c e, q) (sym (stored_whole l at (encode c) h)))

    pub put_none : length l < at + length (encode c) → (at ≡ after l at (encoded c)) × (l ≡ stored l at (encoded c))
    put_none h = (rw (encoded_scalar c e) (sym (after_none l at (encode c) h)), rw (encoded_scalar c e) (sym (stored_none l at (encode c) h)))

  pub put_other : is_scalar c ≡ false → (at ≡ after l at (encoded c)) × (l ≡ stored l at (encoded c))
  put_other e = (rw (encoded_none c e) (sym (after_nothing l at)), rw (encoded_none c e) (sym (stored_nothing l at)))
