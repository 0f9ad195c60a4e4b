-- The questions of the definition, in its order.
use mathlib.Core.Path.{sym, ◌∙◌}
use Rattle.std.proofs.lemmas.Result.{err_from_is_err_and}
use Rattle.door.proofs.run.Doors.{text_first, by_the_book}
use Rattle.door.proofs.run.refuses.Goals as goal

pub returns-in_err-text : goal.returns-in_err-text
returns-in_err-text c =
    let p = err_from_is_err_and c.from_residual.result c.from_residual.ensures.1 in
    rw (p.1, p.2) (sym (text_first _ _ (sym c.text.ensures ∙ c.in_err-text.was)))

pub returns : goal.returns
returns c = c.check.ensures ∙ sym (by_the_book _ _ (sym c.text.ensures ∙ c.in_ok-text.was))
