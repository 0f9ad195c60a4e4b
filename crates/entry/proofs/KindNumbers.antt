-- The numbers of kinds are 1 to 11. Assumes nothing.
use Prim.Native.Nat.{◌≤◌}
use native.Mathlib.Omega.{arith}
use Rattle.entry.specs.Kinds.{kind_number}
use Rattle.entry.specs.declared.kinds.Kind.{Kind}
use Rattle.entry.specs.declared.kinds.Kind.TheVariants as kind

pub kind_small : (k : Kind) → kind_number k ≤ 11
kind_small kind.Name = omega arith
kind_small kind.Keyword = omega arith
kind_small kind.Symbol = omega arith
kind_small kind.Number = omega arith
kind_small kind.String = omega arith
kind_small kind.Interpolated = omega arith
kind_small kind.Text = omega arith
kind_small kind.Raw = omega arith
kind_small kind.Char = omega arith
kind_small kind.Comment = omega arith
kind_small kind.Reserved = omega arith
