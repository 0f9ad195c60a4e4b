-- Entries laid out one behind the other, for any layout. Assumes nothing.
use Prim.Native.Nat.{ℕ, ◌*◌}
use native.Mathlib.Omega.{arith}
use native.Mathlib.Nat.{zero-mul, suc-mul}
use mathlib.Core.List.{List, [], ◌∷◌, ◌++◌, append_assoc}
use mathlib.Core.Path.{◌≡◌, refl, sym, ap, ◌∙◌}
use lib.ListN.{length, length-append}
use Rattle.entry.specs.Entries.{laid_out}
use Rattle.entry.specs.declared.Entry.{Entry}

module _ (laid : Entry → List ℕ) where
  -- so many numbers for each entry
  pub laid_length : (w : ℕ) → ((e : Entry) → length (laid e) ≡ w) → (es : List Entry) → length (laid_out laid es) ≡ length es * w
  unfolding laid_out
  laid_length w wide [] = sym (zero-mul w)
  laid_length w wide (e ∷ es) = length-append (laid e) (laid_out laid es) ∙ omega (arith, wide e, laid_length w wide es, suc-mul (length es) w)

  -- some, and others behind them
  pub laid_append : (es fs : List Entry) → laid_out laid (es ++ fs) ≡ laid_out laid es ++ laid_out laid fs
  unfolding laid_out
  laid_append [] fs = refl
  laid_append (e ∷ es) fs = ap (λ (l : List ℕ). laid e ++ l) (laid_append es fs) ∙ sym (append_assoc (laid e) (laid_out laid es) (laid_out laid fs))
