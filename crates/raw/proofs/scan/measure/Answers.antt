-- What the opening leaves is measured, or is a refusal.
use mathlib.Core.Path.{sym, subst, ◌∙◌}
use Rattle.std.proofs.lemmas.Result.{err_from_is_err_and}
use Rattle.literal.proofs.Turns.{cut_fails}
use Rattle.raw.proofs.open.Leads.{Leads, opened_leads}
use Rattle.raw.specs.Raw.{read_of}
use Rattle.raw.proofs.scan.measure.Goals as goal

pub returns-in_err-k : goal.returns-in_err-k
unfolding read_of
returns-in_err-k c =
    let p = err_from_is_err_and c.from_residual.result c.from_residual.ensures.1 in
    rw (p.1, p.2) (sym (rw (sym c.open.ensures ∙ c.in_err-k.was) (cut_fails _ _ _ _ _)))

pub read-requires : goal.read-requires
read-requires c = (subst (Leads c.args.text.now c.args.start.at) (sym c.open.ensures ∙ c.in_ok-k.was) (opened_leads _ c.args.start c.args.hashes)).0

pub returns : goal.returns
unfolding read_of
returns c = c.read.ensures ∙ sym (rw (sym c.open.ensures ∙ c.in_ok-k.was))
