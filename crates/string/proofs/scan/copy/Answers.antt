-- A part that is empty, or the copy of one.
use Rattle.string.proofs.scan.Copying.{stored_nothing}
use Rattle.string.proofs.scan.copy.Goals as goal

pub slice_bounds-copy-end : goal.slice_bounds-copy-end
slice_bounds-copy-end c = c.requires c.if-at-to.true

pub returns-else-at-to : goal.returns-else-at-to
returns-else-at-to c =
    let a = c.args in
    stored_nothing a.text.now a.out.now a.at a.to a.n c.if-at-to.false
