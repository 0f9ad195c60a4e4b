-- What the arguments refuse is refused; an accepted body is as long as was measured, and has room; a refused one is not written.
use mathlib.Core.Path.{sym, ap, ◌∙◌}
use Rattle.std.proofs.lemmas.Result.{err_from_is_err_and}
use Rattle.literal.specs.Scans.{refused_with}
use Rattle.literal.proofs.Limits.{accepted_whole}
use Rattle.literal.proofs.Turns.{wrote_accepted, wrote_refused}
use Rattle.raw.specs.Raw.{as_source}
use Rattle.raw.proofs.Refusals.{is_refused, answered, left}
use Rattle.raw.proofs.read.Goals as goal

pub returns-in-Err : goal.returns-in-Err
returns-in-Err c =
    let refused = ap refused_with c.as_given.ensures in
    record { value = refused ∙ is_refused as_source _ _ _ _ _ _ c.in-Err.is; out_after = wrote_refused refused _ _ }

pub returns-in_err-end : goal.returns-in_err-end
returns-in_err-end c =
    let p = err_from_is_err_and c.from_residual.result c.from_residual.ensures.1 in
    let passed = p.1 ∙ ap refused_with p.2 in
    record { value = passed ∙ sym (c.in_err-end.was) ∙ answered as_source _ _ _ c.in_default.is _ _ _ c.measure.ensures; out_after = wrote_refused passed _ _ }

pub write-requires : goal.write-requires
write-requires c = let w = accepted_whole _ _ _ _ _ _ (sym c.measure.ensures ∙ c.in_ok-end.was) in (c.requires c.in_default.is, w.0, w.1)

pub returns : goal.returns
returns c =
    let w = accepted_whole _ _ _ _ _ _ (sym c.measure.ensures ∙ c.in_ok-end.was) in
    record {
      value = sym (c.in_ok-end.was) ∙ answered as_source _ _ _ c.in_default.is _ _ _ c.measure.ensures;
      out_after = left as_source _ _ _ c.in_default.is _ _ (c.write.ensures ∙ wrote_accepted _ _ _ _ (rw (← w.0) w.1));
    }
