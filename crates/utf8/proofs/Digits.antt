-- Table 3-6 in one line: an encoding is a first byte and then the digits of the number, to the base of sixty-four, as further bytes.
-- Assumes nothing.
use Prim.Native.Nat.{ℕ, zero, suc, ◌+◌, ◌/◌, ◌%◌, ◌≤◌, ◌<◌}
use native.Mathlib.Nat.{zero-add}
use native.Mathlib.Omega.{arith}
use mathlib.Core.Bool.{true}
use mathlib.Core.List.{List, [], ◌∷◌, ◌++◌}
use mathlib.Core.Path.{◌≡◌, refl, ap, sym, ◌∙◌}
use lib.ListN.{length, drop, get_or, get_or-append}
use Rattle.utf8.specs.Table.{◌‥◌, within}
use Rattle.utf8.specs.Encode.{encode}
use Rattle.utf8.proofs.Ranges.{is_within}
use Rattle.utf8.proofs.Encodes.{enc1, enc2, enc3, enc4}

-- a number without its last n digits
abbrev pub shift : ℕ → ℕ → ℕ
shift zero c = c
shift (suc n) c = shift n c / 64

-- those digits, as further bytes
abbrev pub tails : ℕ → ℕ → List ℕ
tails zero c = []
tails (suc n) c = (0x80 + shift n c % 64) ∷ tails n c

-- with n further bytes: the first byte for the digit 0
abbrev pub base : ℕ → ℕ
base zero = 0
base (suc zero) = 0xC0
base (suc (suc zero)) = 0xE0
base (suc (suc (suc n))) = 0xF0

-- the least number that has them
abbrev pub least : ℕ → ℕ
least zero = 0
least (suc zero) = 0x80
least (suc (suc zero)) = 0x800
least (suc (suc (suc n))) = 0x10000

-- the least that does not
abbrev pub past : ℕ → ℕ
past zero = 0x80
past (suc zero) = 0x800
past (suc (suc zero)) = 0x10000
past (suc (suc (suc zero))) = 0x110000
past (suc (suc (suc (suc n)))) = 0

pub encode_by : (n c : ℕ) → least n ≤ c → c < past n → encode c ≡ (base n + shift n c) ∷ tails n c
encode_by zero c h g = enc1 c g ∙ ap (λ (x : ℕ). x ∷ []) (sym (zero-add c))
encode_by (suc zero) c h g = enc2 c h g
encode_by (suc (suc zero)) c h g = enc3 c h g
encode_by (suc (suc (suc zero))) c h g = enc4 c h
encode_by (suc (suc (suc (suc n)))) c h g = absurd (omega arith)

pub tails_length : (n c : ℕ) → length (tails n c) ≡ n
tails_length zero c = refl
tails_length (suc n) c = ap suc (tails_length n c)

-- they are 80..BF
tails_within : (n c k : ℕ) → k < n → within (0x80 ‥ 0xBF) (get_or (tails n c) k 0) ≡ true
tails_within zero c k h = absurd (omega arith)
tails_within (suc n) c zero h = is_within (0x80 ‥ 0xBF) (0x80 + shift n c % 64) (omega arith) (omega arith)
tails_within (suc n) c (suc k) h = tails_within n c k (omega arith)

pub tails_inner : (n c a : ℕ) (bs : List ℕ) → bs ≡ tails n c ++ drop n bs → (k : ℕ) → 0 < k → k < suc n → within (0x80 ‥ 0xBF) (get_or (a ∷ bs) k 0) ≡ true
tails_inner n c a bs e zero h g = absurd (omega arith)
tails_inner n c a bs e (suc k) h g =
    ap (λ (l : List ℕ). within (0x80 ‥ 0xBF) (get_or l k 0)) e
    ∙ ap (within (0x80 ‥ 0xBF)) (get_or-append (tails n c) (drop n bs) 0 k (omega (arith, tails_length n c)))
    ∙ tails_within n c k (omega arith)
