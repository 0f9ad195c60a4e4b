-- Demand 3 for the reading of a raw literal: every test of the limit refuses with 7 at its start, and no rule of its own with 7, 9 or 10. Assumes nothing.
use Prim.Native.Nat.{ℕ}
use native.Mathlib.Omega.{arith}
use mathlib.Core.List.{List}
use Rattle.chars.specs.declared.cursor.Cursor.{Cursor}
use Rattle.literal.specs.Limits.{FairTrace}
use Rattle.raw.specs.Raw.{read_of, Newlines}
use Rattle.raw.proofs.scan.Readings.{every}

pub read_fair_trace : (mode : Newlines) (t : List ℕ) (start : Cursor) (k : ℕ) → FairTrace start.place (read_of mode t start k)
read_fair_trace mode t start k =
    every mode t start (λ at r. FairTrace start.place r) (λ at e q. tt) (λ at f l. (λ q. omega arith, λ q. omega arith, λ q. omega arith)) (λ at bs f r q h. (q, h)) (λ at c w r e h. h) k
