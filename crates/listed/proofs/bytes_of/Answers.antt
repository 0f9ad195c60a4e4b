-- By the branches that were taken.
use mathlib.Core.Path.{sym, ◌∙◌}
use Rattle.listed.proofs.Lines.{bytes_below, bytes_above, bytes_packed}
use Rattle.listed.proofs.bytes_of.Goals.{else-kind-via-then-kind+else-kind-2, else-kind-via-else-kind}
use Rattle.listed.proofs.bytes_of.Goals as goal

pub returns-then-kind-2 : goal.returns-then-kind-2
returns-then-kind-2 c = c.part.ensures ∙ sym (bytes_packed _ _ _ _ _ c.if-kind.true c.if-kind-2.true)

pub returns-else-kind : goal.returns-else-kind
returns-else-kind c =
    c.part-else-kind.ensures
    ∙ sym
    (elim c.else-kind.branch [
      | else-kind-via-then-kind+else-kind-2 w ↦ bytes_above _ _ _ _ _ w.if-kind.true w.if-kind-2.false
      | else-kind-via-else-kind w ↦ bytes_below _ _ _ _ _ w.if-kind.false
    ])
