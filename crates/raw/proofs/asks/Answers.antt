-- The questions of the definition, in its order.
use mathlib.Core.Path.{sym, ◌∙◌}
use Rattle.std.proofs.lemmas.Result.{err_from_is_err_and}
use Rattle.raw.proofs.Refusals.{at_door, off_line, no_hash, too_many, let_in}
use Rattle.raw.proofs.asks.Goals as goal
use Rattle.raw.proofs.asks.Goals.{else-is_on_line-via-then-is_on_line+then-hashes-ge1+else-hashes-le16777216, else-is_on_line-via-then-is_on_line+else-hashes-ge1, else-is_on_line-via-else-is_on_line}

pub returns-in_err-door : goal.returns-in_err-door
returns-in_err-door c =
    let p = err_from_is_err_and c.from_residual.result c.from_residual.ensures.1 in
    rw (p.1, p.2) (at_door _ _ _ (sym c.door.ensures ∙ c.in_err-door.was))

pub returns-then-hashes-le16777216 : goal.returns-then-hashes-le16777216
returns-then-hashes-le16777216 c = let_in _ _ _ (sym c.door.ensures ∙ c.in_ok-door.was) (sym c.is_on_line.ensures ∙ c.if-is_on_line.true) c.if-hashes-ge1.true c.if-hashes-le16777216.true

pub returns-else-is_on_line : goal.returns-else-is_on_line
returns-else-is_on_line c =
    let passed = sym c.door.ensures ∙ c.in_ok-door.was in
    elim c.else-is_on_line.branch [
      | else-is_on_line-via-then-is_on_line+then-hashes-ge1+else-hashes-le16777216 w ↦
          too_many _ _ _ passed (sym c.is_on_line.ensures ∙ w.if-is_on_line.true) w.if-hashes-ge1.true w.if-hashes-le16777216.false
      | else-is_on_line-via-then-is_on_line+else-hashes-ge1 w ↦ no_hash _ _ _ passed (sym c.is_on_line.ensures ∙ w.if-is_on_line.true) w.if-hashes-ge1.false
      | else-is_on_line-via-else-is_on_line w ↦ off_line _ _ _ passed (sym c.is_on_line.ensures ∙ w.if-is_on_line.false)
    ]
