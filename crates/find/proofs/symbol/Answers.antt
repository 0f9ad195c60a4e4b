-- The longest symbol, or 5.
use Rattle.symbols.specs.Found.{symbol_as}
use Prim.Native.Nat.{◌+◌, ◌≤◌, ◌<◌}
use native.Mathlib.Omega.{arith}
use mathlib.Core.Path.{◌≡◌, sym, ◌∙◌}
use lib.ListN.{length}
use Rattle.symbols.specs.Symbols.{longest_symbol_of}
use Rattle.symbols.proofs.Longer.{offset_within}
use Rattle.symbols.proofs.Standing.{from_offset}
use Rattle.find.proofs.Begins.{a_symbol, no_symbol}
use Rattle.find.proofs.symbol.Goals as goal
use Rattle.find.proofs.symbol.Goals.{In-Some}

-- the symbol that was found
module _ (k : In-Some) where
  found : longest_symbol_of k.args.text.now k.args.start.at ≡ symbol_as k.in-Some.token k.in-Some.n
  found = sym (from_offset _ _ _ k.longest_of.ensures) ∙ k.in-Some.is

  room : (0 < k.in-Some.n) × (k.args.start.at + k.in-Some.n ≤ length k.args.text.now)
  room = offset_within _ _ _ _ found

pub returns-in_default : goal.returns-in_default
returns-in_default c =
    rw c.about.ensures (sym (no_symbol _ _ _ (sym (from_offset _ _ _ c.longest_of.ensures) ∙ c.in_default.is)))

pub overflow_sub-n : goal.overflow_sub-n
overflow_sub-n c = omega (arith, room c)

pub overflow_add-end : goal.overflow_add-end
overflow_add-end c = omega (arith, room (goal.at.overflow_add-end c).In-Some)

pub returns : goal.returns
returns c = rw c.advanced_by.ensures (sym (a_symbol _ _ _ (found (goal.at.returns c).In-Some)))
