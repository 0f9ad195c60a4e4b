-- The lines that are left go where all were to go.
use mathlib.Core.Path.{refl, sym, ◌∙◌}
use native.Mathlib.Nat.{sub-zero}
use borrow.Author.Rules.{rules}
use Rattle.listed.proofs.Puts.{puts_none}
use Rattle.listed.proofs.Lines.{take_rest, lines_next, lines_past}
use Rattle.listed.proofs.put_entries.Goals as goal

pub loop-n-init : goal.loop-n-init
loop-n-init c = (refl, rw sub-zero)

pub loop-n-preserved : goal.loop-n-preserved
loop-n-preserved c =
    (search rules, c.loop-n.invariant.1 ∙ lines_next _ _ _ _ _ _ c.loop-n-test.true (rw (take_rest _ _) at c.put_entry-at.ensures))

pub returns : goal.returns
returns c = sym (c.loop-n.invariant.1 ∙ rw (lines_past _ _ _ _ _ c.loop-n-test.false) (puts_none _))
