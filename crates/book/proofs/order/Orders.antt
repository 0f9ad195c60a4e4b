-- The order of texts: a text is equal to itself alone, and what is below a text is below all that the text is below. Assumes nothing.
use Prim.Native.Nat.{ℕ, ◌<◌}
use native.Mathlib.Omega.{arith}
use mathlib.Core.Bool.{true}
use mathlib.Core.List.{List, [], ◌∷◌}
use mathlib.Core.Path.{◌≡◌, refl, sym, ap₂, ◌∙◌}
use mathlib.Core.Logic.{⊎_elim}
use borrow.Author.Tests.{lt-ltb, le-ltb, eq-eqb, ne_eqb}
use Rattle.basis.proofs.Bounds.{split}
use Rattle.std.specs.Ordering.{nat_cmp, is_lt}
use Rattle.std.specs.Cmp.Lexicographic.{slice_cmp}
use Rattle.book.specs.Order.{compared}
use Rattle.std.specs.declared.cmp.Ordering.{Ordering}
use Rattle.std.specs.declared.cmp.Ordering.TheVariants.{Less, Equal, Greater}

-- two numbers stand in one of three ways
module _ {A : Type 0} (x y : ℕ) where
  three : (x < y → A) → (y < x → A) → (x ≡ y → A) → A
  three l g e = ⊎_elim l (λ a. ⊎_elim g (λ b. e (omega arith)) (split y x)) (split x y)

-- and so do two texts, by their first bytes
module _ (x y : ℕ) (xs ys : List ℕ) where
  first_below : x < y → compared (x ∷ xs) (y ∷ ys) ≡ Less
  unfolding compared
  first_below h = rw (lt-ltb x y h)

  first_above : y < x → compared (x ∷ xs) (y ∷ ys) ≡ Greater
  unfolding compared
  first_above h = rw (le-ltb x y (omega arith), lt-ltb y x h)

  first_same : x ≡ y → compared (x ∷ xs) (y ∷ ys) ≡ compared xs ys
  unfolding compared
  first_same h = rw (le-ltb x y (omega arith), le-ltb y x (omega arith))

-- one answer is not another
pub not_less_greater {ℓ} : {A : Type ℓ} {o : Ordering} → o ≡ Less → o ≡ Greater → A
not_less_greater p q = absurd (let z : ◌≡◌ {A = ℕ} 0 1 = cc in omega arith)

pub not_less_equal {ℓ} : {A : Type ℓ} {o : Ordering} → o ≡ Less → o ≡ Equal → A
not_less_equal p q = absurd (let z : ◌≡◌ {A = ℕ} 0 1 = cc in omega arith)

pub not_greater_equal {ℓ} : {A : Type ℓ} {o : Ordering} → o ≡ Greater → o ≡ Equal → A
not_greater_equal p q = absurd (let z : ◌≡◌ {A = ℕ} 0 1 = cc in omega arith)

-- a text is equal to itself, and to no other
pub equal_self : (v : List ℕ) → compared v v ≡ Equal
unfolding compared
equal_self [] = refl
equal_self (x ∷ xs) = first_same x x xs xs refl ∙ equal_self xs

pub equal_is : (v w : List ℕ) → compared v w ≡ Equal → v ≡ w
unfolding compared
equal_is [] [] e = refl
equal_is [] (y ∷ ys) e = not_less_equal refl e
equal_is (x ∷ xs) [] e = not_greater_equal refl e
equal_is (x ∷ xs) (y ∷ ys) e =
    three x y
    (λ h. not_less_equal (first_below x y xs ys h) e)
    (λ h. not_greater_equal (first_above x y xs ys h) e)
    (λ h. ap₂ (λ (a : ℕ) (l : List ℕ). a ∷ l) h (equal_is xs ys (sym (first_same x y xs ys h) ∙ e)))

-- what is below a text is below all that the text is below
pub less_less : (u v w : List ℕ) → compared u v ≡ Less → compared v w ≡ Less → compared u w ≡ Less
unfolding compared
less_less u [] [] p q = not_less_equal q refl
less_less u (y ∷ ys) [] p q = not_less_greater q refl
less_less [] v (z ∷ zs) p q = refl
less_less (x ∷ xs) [] (z ∷ zs) p q = not_less_greater p refl
less_less (x ∷ xs) (y ∷ ys) (z ∷ zs) p q =
    three x y
    (λ h. three y z (λ g. first_below x z xs zs (omega arith)) (λ g. not_less_greater q (first_above y z ys zs g)) (λ g. first_below x z xs zs (omega arith)))
    (λ h. not_less_greater p (first_above x y xs ys h))
    (λ h. three y z
    (λ g. first_below x z xs zs (omega arith))
    (λ g. not_less_greater q (first_above y z ys zs g))
    (λ g. first_same x z xs zs (omega arith) ∙ less_less xs ys zs (sym (first_same x y xs ys h) ∙ p) (sym (first_same y z ys zs g) ∙ q)))

-- a test for Less that holds
pub is_less_lem : (o : Ordering) → is_lt o ≡ true → o ≡ Less
is_less_lem Less e = refl
is_less_lem Equal e = absurd (let z : ◌≡◌ {A = ℕ} 0 1 = cc in omega arith)
is_less_lem Greater e = absurd (let z : ◌≡◌ {A = ℕ} 0 1 = cc in omega arith)

-- the order is the library's order of slices
pub as_slices : (v w : List ℕ) → slice_cmp nat_cmp v w ≡ compared v w
unfolding compared
as_slices [] [] = refl
as_slices [] (y ∷ ys) = refl
as_slices (x ∷ xs) [] = refl
as_slices (x ∷ xs) (y ∷ ys) =
    three x y
    (λ h. rw (lt-ltb x y h))
    (λ h. rw (le-ltb x y (omega arith), lt-ltb y x h, ne_eqb x y (λ e. omega arith)))
    (λ h. rw (le-ltb x y (omega arith), le-ltb y x (omega arith), eq-eqb x y h) (as_slices xs ys))
