-- Numbers in decimal digits, as the Rust's `{}` prints them.
use Rattle.std.specs.Prelude.{ℕ, zero, suc, ◌+◌, ◌-◌, ◌*◌, ◌/◌, ◌%◌, [], ◌∷◌, ◌++◌, ltb}
use Rattle.basis.specs.Types.{Text}
use Rattle.basis.specs.Pick.{pick}

-- the byte of a digit
unfoldable pub digit : ℕ → ℕ
digit d = 48 + d

-- the digits of a number, the highest first, in at most so many steps
unfoldable pub digits : ℕ → ℕ → Text
digits zero n = digit n ∷ []
digits (suc k) n = let higher = digits k (n / 10) in pick (ltb n 10) (digit n ∷ []) (higher ++ (digit (n % 10) ∷ []))

-- a number in decimal: as many steps as it says are enough
unfoldable pub decimal : ℕ → Text
decimal n = digits n n

-- the number that digits spell, after those that spell v
unfoldable pub spelled_after : ℕ → Text → ℕ
spelled_after v [] = v
spelled_after v (d ∷ ds) = spelled_after (v * 10 + (d - 48)) ds

-- the number that digits spell
unfoldable pub number_spelled : Text → ℕ
number_spelled ds = spelled_after 0 ds
