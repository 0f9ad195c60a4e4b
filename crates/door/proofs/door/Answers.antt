-- The questions of the definition, in its order; where characters begin is asked of one byte.
use mathlib.Core.Path.{sym, ◌∙◌}
use Rattle.std.proofs.lemmas.Result.{err_from_is_err_and}
use Rattle.door.proofs.Doors.{text_first, let_in, not_there}
use Rattle.door.proofs.door.Goals as goal

pub returns-in_err-text : goal.returns-in_err-text
returns-in_err-text c =
    let p = err_from_is_err_and c.from_residual.result c.from_residual.ensures.1 in
    rw (p.1, p.2) (sym (text_first _ _ (sym c.text.ensures ∙ c.in_err-text.was)))

pub returns-then-is_boundary : goal.returns-then-is_boundary
returns-then-is_boundary c = sym (let_in _ _ (sym c.text.ensures ∙ c.in_ok-text.was) (sym c.is_boundary.ensures ∙ c.if-is_boundary.true))

pub returns : goal.returns
returns c = sym (not_there _ _ (sym c.text.ensures ∙ c.in_ok-text.was) (sym c.is_boundary.ensures ∙ c.if-is_boundary.false))
