-- The last arm has no symbol, and neither has an empty text; the check finds by itself that each other arm answers the longest of the symbols that begin with its byte.
use native.Mathlib.Omega.{arith}
use Rattle.symbols.proofs.Begun.{on_none, on_other}
use Rattle.symbols.proofs.longest_of.Goals as goal

pub returns-in_default : goal.returns-in_default
returns-in_default c = on_none _ (omega arith)

pub returns-in_default-first : goal.returns-in_default-first
returns-in_default-first c = search (on_other, c.type_inv.text 0)
