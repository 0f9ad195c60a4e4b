-- A quote, or a character that ends the attempt.
use native.Mathlib.Omega.{arith}
use mathlib.Core.Path.{sym, ◌∙◌}
use Rattle.utf8.proofs.Laws.{at_width}
use Rattle.raw.specs.Step.{again, ended}
use Rattle.raw.proofs.scan.Passing.{quote_found}
use Rattle.raw.proofs.scan.lost_at.Goals as goal

pub overflow_add-result-in_default : goal.overflow_add-result-in_default
overflow_add-result-in_default c = omega (arith, at_width _ _ (sym c.look_at.ensures ∙ c.in_ok-c.was), c.requires, c.well_formed)

pub overflow_add-result-in_default-2 : goal.overflow_add-result-in_default-2
overflow_add-result-in_default-2 c = omega (arith, at_width _ _ (sym c.look_at.ensures ∙ c.in_ok-c.was), c.requires, c.well_formed)

pub overflow_add-result-in_default-3 : goal.overflow_add-result-in_default-3
overflow_add-result-in_default-3 c = omega (arith, at_width _ _ (sym c.look_at.ensures ∙ c.in_ok-c.was), c.requires, c.well_formed)

pub returns-in-34 : goal.returns-in-34
returns-in-34 c = again (quote_found _ _ (sym c.look_at.ensures ∙ c.in_ok-c.was) c.in-34.is)

pub returns-in_default : goal.returns-in_default
returns-in_default c =
    let e = sym c.look_at.ensures ∙ c.in_ok-c.was in
    ended (record { code = c.in_ok-c.c; found = e; fits = (at_width _ _ e).1; is = (λ q. omega (arith, q), λ q. omega (arith, q)) })
