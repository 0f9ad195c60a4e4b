-- A place packed is its line and its column: two places have two numbers, and none has a refusal's. Assumes nothing.
use Prim.Native.Nat.{ℕ, ◌+◌, ◌*◌, ◌≤◌, ◌<◌}
use native.Mathlib.Omega.{arith}
use mathlib.Core.Path.{◌≡◌, sym, ◌∙◌}
use Rattle.position.specs.Place.{given}
use Rattle.position.proofs.Moves.{given_line, given_column}
use Rattle.c_answer.specs.Packed.{packed}

pub packed_given : (l c : ℕ) → packed (given l c) ≡ l * 65536 + c
unfolding packed
packed_given l c = rw (given_line l c, given_column l c)

pub packed_low : (l c : ℕ) → l ≤ 65535 → c ≤ 65535 → packed (given l c) < 4294967296
packed_low l c h g = rw (packed_given l c) (omega arith)

pub packed_apart : (l c m d : ℕ) → c ≤ 65535 → d ≤ 65535 → packed (given l c) ≡ packed (given m d) → (l ≡ m) × (c ≡ d)
packed_apart l c m d h g e =
    let s : l * 65536 + c ≡ m * 65536 + d = sym (packed_given l c) ∙ e ∙ packed_given m d in
    (omega arith, omega arith)
