-- The order is the library's. Assumes nothing.
use mathlib.Core.Path.{◌∙◌}
use Rattle.book.proofs.order.Orders.{as_slices}
use Rattle.book.proofs.order.compare.Goals as goal

pub returns : goal.returns
returns c = c.cmp.ensures ∙ as_slices _ _
