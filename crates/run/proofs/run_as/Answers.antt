-- Who is let in is read; else nothing is listed.
use mathlib.Core.Path.{sym, ap, ◌∙◌}
use Rattle.reading.specs.Reading.{Left}
use Rattle.door.proofs.run.Doors.{admitted}
use Rattle.script.specs.Rules.{document01}
use Rattle.run.specs.Run.{holds}
use Rattle.run.proofs.Runs.{run_read, refused_call}
use Rattle.run.proofs.run_as.Goals as goal

pub tokens-requires : goal.tokens-requires
tokens-requires g c =
    let who = admitted _ _ (sym c.refuses.ensures ∙ c.in-Ok.is) in
    (who.fair, who.short)

pub returns-in-Ok : goal.returns-in-Ok
returns-in-Ok g c =
    let part = g.P.Part in
    let read = run_read document01 _ _ _ (sym c.refuses.ensures ∙ c.in-Ok.is) in
    c.tokens.ensures ∙ ap (λ (l : Left). holds part.laid l c.args.literals.now (part.numbers c.args.entries.now)) (sym read)

pub returns-in-Err : goal.returns-in-Err
returns-in-Err g c = rw c.refused.ensures (refused_call document01 _ _ _ (sym c.refuses.ensures ∙ c.in-Err.is) _ _ _)
