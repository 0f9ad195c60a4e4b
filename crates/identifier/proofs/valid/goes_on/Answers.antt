-- What goes on from here goes on from the start, since every byte passed does.
use native.Mathlib.Omega.{arith}
use mathlib.Core.Path.{refl, sym, ◌∙◌}
use Rattle.identifier.proofs.valid.Valids.{on, off, all_on}
use Rattle.identifier.proofs.valid.goes_on.Goals as goal

pub loop-i-init : goal.loop-i-init
loop-i-init c = (c.requires, refl)

pub overflow_cast-name : goal.overflow_cast-name
overflow_cast-name c = omega (arith, c.shared_slice_known-in-loop-i-1.given c.loop-i.i)

pub loop-i-preserved : goal.loop-i-preserved
loop-i-preserved c =
    (omega arith, c.loop-i.invariant.1 ∙ on _ _ c.loop-i-test.true (sym c.is_id_continue.ensures ∙ c.if-is_id_continue.true))

pub returns-else-is_id_continue : goal.returns-else-is_id_continue
returns-else-is_id_continue c =
    sym (c.loop-i.invariant.1 ∙ off _ _ c.loop-i-test.true (sym c.is_id_continue.ensures ∙ c.if-is_id_continue.false))

pub returns : goal.returns
returns c = sym (c.loop-i.invariant.1 ∙ all_on _ _ c.loop-i-test.false)
