-- Decimal digits are right: they spell the number, each is one of `0` to `9`, and no `0` leads but in 0 itself.
-- Assumes nothing.
use Prim.Native.Nat.{ℕ, zero, suc, ◌+◌, ◌-◌, ◌*◌, ◌/◌, ◌%◌, ◌≤◌, ◌<◌}
use native.Mathlib.Omega.{arith}
use mathlib.Core.List.{List, [], ◌∷◌, ◌++◌}
use mathlib.Core.Logic.{⊎_elim}
use mathlib.Core.Path.{◌≡◌, refl}
use lib.ListN.{length, get_or, length-append, get_or-append}
use borrow.Author.Tests.{lt-ltb, le-ltb}
use Rattle.basis.specs.Words.{word}
use Rattle.basis.proofs.Bounds.{split}
use Rattle.display.specs.Decimal.{digit, digits, decimal, spelled_after, number_spelled}

-- more steps than the number says change nothing
enough : (k m n : ℕ) → n ≤ k → n ≤ m → digits k n ≡ digits m n
unfolding digits
enough zero zero n h g = refl
enough zero (suc m) n h g = rw (lt-ltb n 10 (omega arith))
enough (suc k) zero n h g = rw (lt-ltb n 10 (omega arith))
enough (suc k) (suc m) n h g = rw (enough k m (n / 10) (omega arith) (omega arith))

-- a number of one digit
pub decimal_one : (n : ℕ) → n < 10 → decimal n ≡ digit n ∷ []
unfolding decimal digits
decimal_one zero h = refl
decimal_one (suc m) h = rw (lt-ltb (suc m) 10 h)

-- a number of more: the tens, then the last digit
pub decimal_more : (n : ℕ) → 10 ≤ n → decimal n ≡ decimal (n / 10) ++ (digit (n % 10) ∷ [])
unfolding decimal digits
decimal_more zero h = absurd (omega arith)
decimal_more (suc m) h = rw (le-ltb (suc m) 10 h, enough m (suc m / 10) (suc m / 10) (omega arith) (omega arith))

-- what holds of each number below 10, and of a number where it holds of its tens, holds of all
module _ (P : ℕ → Type 0) (one : (n : ℕ) → n < 10 → P n) (more : (n : ℕ) → 10 ≤ n → P (n / 10) → P n) where
  steps : (k n : ℕ) → n ≤ k → P n
  steps zero n h = one n (omega arith)
  steps (suc k) n h = ⊎_elim (λ l. one n l) (λ g. more n g (steps k (n / 10) (omega arith))) (split n 10)

  pub by_tens : (n : ℕ) → P n
  by_tens n = steps n n (omega arith)

-- one digit more
spelled_more : (v : ℕ) (xs : List ℕ) (d : ℕ) → spelled_after v (xs ++ (d ∷ [])) ≡ spelled_after v xs * 10 + (d - 48)
unfolding spelled_after
spelled_more v [] d = refl
spelled_more v (x ∷ xs) d = spelled_more (v * 10 + (x - 48)) xs d

-- the digits spell the number
pub decimal_spells : (n : ℕ) → number_spelled (decimal n) ≡ n
unfolding number_spelled spelled_after digit
decimal_spells =
    by_tens (λ n. number_spelled (decimal n) ≡ n)
    (λ n h. rw (decimal_one n h) (omega arith))
    (λ n h e. rw (decimal_more n h, spelled_more 0 (decimal (n / 10)) (digit (n % 10)), e) (omega arith))

-- there is one at least
pub decimal_some : (n : ℕ) → 1 ≤ length (decimal n)
decimal_some =
    by_tens (λ n. 1 ≤ length (decimal n))
    (λ n h. rw (decimal_one n h) (omega arith))
    (λ n h e. rw (decimal_more n h, length-append (decimal (n / 10)) (digit (n % 10) ∷ [])) (omega arith))

-- each byte is one of `0` to `9`
abbrev pub Digits : List ℕ → Type 0
Digits xs = (i : ℕ) → i < length xs → (48 ≤ get_or xs i 0) × (get_or xs i 0 ≤ 57)

digits_more : (xs : List ℕ) (d : ℕ) → d < 10 → Digits xs → Digits (xs ++ (digit d ∷ []))
unfolding digit
digits_more [] d h a zero g = (omega arith, omega arith)
digits_more [] d h a (suc i) g = absurd (omega arith)
digits_more (x ∷ xs) d h a zero g = a zero (omega arith)
digits_more (x ∷ xs) d h a (suc i) g = digits_more xs d h (λ j k. a (suc j) (omega arith)) i (omega arith)

pub decimal_digits : (n : ℕ) → Digits (decimal n)
decimal_digits =
    by_tens (λ n. Digits (decimal n))
    (λ n h. rw (decimal_one n h) (digits_more [] n h (λ i g. absurd (omega arith))))
    (λ n h a. rw (decimal_more n h) (digits_more (decimal (n / 10)) (n % 10) (omega arith) a))

-- no `0` leads but in 0 itself
pub decimal_leads : (n : ℕ) → get_or (decimal n) 0 0 ≡ 48 → n ≡ 0
unfolding digit
decimal_leads =
    by_tens (λ n. get_or (decimal n) 0 0 ≡ 48 → n ≡ 0)
    (λ n h. rw (decimal_one n h) (λ e. omega arith))
    (λ n h e. rw (decimal_more n h, get_or-append (decimal (n / 10)) (digit (n % 10) ∷ []) 0 0 (decimal_some (n / 10))) (λ z. let t : n / 10 ≡ 0 = e z in omega arith))

pub decimal_zero : decimal 0 ≡ word "0"
unfolding decimal digits digit word
decimal_zero = refl

-- how many there are: ten times the bound is one digit more
abbrev Short : ℕ → ℕ → Type 0
Short b m = (n : ℕ) → n < b → length (decimal n) ≤ m

short_one : Short 10 1
short_one n h = rw (decimal_one n h) (omega arith)

short_more : (b m : ℕ) → 10 ≤ b → 1 ≤ m → Short b m → Short (b * 10) (m + 1)
short_more b m p q s n h =
    ⊎_elim
    (λ l. rw (decimal_one n l) (omega arith))
    (λ g. rw (decimal_more n g, length-append (decimal (n / 10)) (digit (n % 10) ∷ [])) (let t : length (decimal (n / 10)) ≤ m = s (n / 10) (omega arith) in omega arith))
    (split n 10)

-- a coordinate has at most five
pub decimal_short : (n : ℕ) → n ≤ 65535 → length (decimal n) ≤ 5
decimal_short n h =
    short_more 10000 4 (omega arith) (omega arith)
    (short_more 1000 3 (omega arith) (omega arith)
    (short_more 100 2 (omega arith) (omega arith)
    (short_more 10 1 (omega arith) (omega arith) short_one)))
    n (omega arith)
