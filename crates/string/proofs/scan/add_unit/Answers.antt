-- Nothing, or a unit, by its law, and perhaps bytes behind it: proofs/Leading.antt.
use mathlib.Core.Path.{sym, ◌∙◌}
use Rattle.string.proofs.scan.Leading.{leads_then, adds_on}
use Rattle.string.proofs.scan.add_unit.Goals as goal

pub returns-then-unit : goal.returns-then-unit
returns-then-unit c =
    leads_then _ _ _ _ _
    (adds_on _ _ _ _ _ c.args.here c.in-Some.unit c.requires.1 c.in-Some.ensures (sym c.is_over.ensures ∙ c.if-is_over.false)
    c.size-m.ensures c.if-room-n.false c.put.ensures c.advanced.ensures c.or_else-first.ensures)
    (c.add_bytes.ensures c.args.start)

pub returns : goal.returns
returns c =
    adds_on _ _ _ _ _ c.args.here c.in-Some.unit c.requires.1 c.in-Some.ensures (sym c.is_over.ensures ∙ c.if-is_over.false)
    c.size-m.ensures c.if-room-n.false c.put.ensures c.advanced.ensures c.or_else-first.ensures
