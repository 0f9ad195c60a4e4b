-- Every move keeps a place's line and column within 65,535. Assumes nothing.
use Prim.Native.Nat.{ℕ, zero, suc, ◌≤◌}
use native.Mathlib.Omega.{arith}
use Rattle.position.specs.Place.{none, start, line_number, column_number, up, advanced, advanced_by, lined}
use Rattle.position.specs.declared.Position.{Position}

pub record Small (p : Position) : Type 0 where
  pub line : line_number p ≤ 65535
  pub column : column_number p ≤ 65535

pub none_small : Small none
unfolding none line_number column_number
none_small = record { line = omega arith; column = omega arith }

pub start_small : Small start
unfolding start line_number column_number
start_small = record { line = omega arith; column = omega arith }

up_small : (n : ℕ) → up n ≤ 65535
unfolding up
up_small n = omega arith

pub advanced_small : {p : Position} → Small p → Small (advanced p)
unfolding advanced line_number column_number
advanced_small {p} h = record { line = h.line; column = up_small p.pos }

pub advanced_by_small : (n : ℕ) {p : Position} → Small p → Small (advanced_by n p)
unfolding advanced_by
advanced_by_small zero h = h
advanced_by_small (suc n) h = advanced_small (advanced_by_small n h)

pub lined_small : {p : Position} → Small p → Small (lined p)
unfolding lined line_number column_number
lined_small {p} h = record { line = up_small p.line; column = omega arith }
