-- What a fault tells is small: its number, its place, and the part of a script of so many bytes. Assumes nothing.
use Prim.Native.Nat.{ℕ, ◌≤◌}
use native.Mathlib.Omega.{arith}
use Rattle.position.specs.declared.Position.{Position}
use Rattle.position.proofs.Small.{Small}
use Rattle.fault.specs.declared.Fault.{Fault}
use Rattle.fault.specs.Faults.{fault, number}
use Rattle.lex_error.specs.declared.LexError.{LexError}
use Rattle.lex_error.proofs.Small.{number_small}

pub record Tells (n : ℕ) (f : Fault) : Type 0 where
  pub number : number f ≤ 15
  pub place : Small f.place
  pub at : f.part.at ≤ n
  pub len : f.part.len ≤ n

-- a fault that is about no part
pub fault_tells : (n : ℕ) (e : LexError) {p : Position} → Small p → Tells n (fault e p)
fault_tells n e s = record { number = number_small e; place = s; at = omega arith; len = omega arith }
