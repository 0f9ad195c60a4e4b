-- Where there is room the loop ends with nothing left to store, so the stores of the start are made; else there are none.
use mathlib.Core.Path.{sym, ◌∙◌}
use native.Mathlib.Omega.{arith}
use lib.ListN.{drop_of_length-le}
use Rattle.basis.proofs.Stores.{stored_none, after_none, stored_whole, after_whole}
use Rattle.lent.proofs.copy.Goals as goal

pub returns-in_default : goal.returns-in_default
returns-in_default c = record { value = sym (after_none _ _ _ (omega arith)); out_after = sym (stored_none _ _ _ (omega arith)) }

pub returns : goal.returns
returns c = record { value = sym (after_whole _ _ _ (omega arith) ∙ omega arith); out_after = sym (stored_whole _ _ _ (omega arith) ∙ c.loop-i.invariant ∙ rw (drop_of_length-le _ c.loop-i-test.false)) }
