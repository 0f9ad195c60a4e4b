-- Behind the block that was found, or behind the one byte that is known.
use native.Mathlib.Omega.{arith}
use Rattle.utf8.proofs.formed.Blocks.{one_ascii}
use Rattle.utf8.proofs.formed.behind_ascii.Goals as goal

pub returns-then-at-ne0 : goal.returns-then-at-ne0
returns-then-at-ne0 c = let pre = c.requires in (omega arith, one_ascii _ _ pre.0 pre.1)

pub is_ascii-requires : goal.is_ascii-requires
is_ascii-requires c = omega (arith, c.requires.0)

pub overflow_add-result-then-is_ascii : goal.overflow_add-result-then-is_ascii
overflow_add-result-then-is_ascii c = omega (arith, (c.is_ascii.ensures c.if-is_ascii.true).ends)

pub returns-then-is_ascii : goal.returns-then-is_ascii
returns-then-is_ascii c = (omega arith, c.is_ascii.ensures c.if-is_ascii.true)

pub is_ascii-requires-2 : goal.is_ascii-requires-2
is_ascii-requires-2 c = omega (arith, c.requires.0)

pub overflow_add-result-then-is_ascii-2 : goal.overflow_add-result-then-is_ascii-2
overflow_add-result-then-is_ascii-2 c = omega (arith, (c.is_ascii-2.ensures c.if-is_ascii-2.true).ends)

pub returns-then-is_ascii-2 : goal.returns-then-is_ascii-2
returns-then-is_ascii-2 c = (omega arith, c.is_ascii-2.ensures c.if-is_ascii-2.true)

pub returns : goal.returns
returns c = (omega arith, one_ascii _ _ c.requires.0 c.requires.1)
