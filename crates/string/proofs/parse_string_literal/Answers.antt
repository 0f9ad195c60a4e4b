-- The arguments refused, the scan refused, or the body written by the same scan once more: laws of proofs/Entering.antt.
use mathlib.Core.Path.{sym, ap, ◌∙◌}
use Rattle.std.proofs.lemmas.Result.{err_from_is_err_and}
use Rattle.literal.proofs.Turns.{wrote_refused}
use Rattle.literal.specs.Scans.{refused_with}
use Rattle.string.proofs.scan.Keeps.{accepted_kept}
use Rattle.string.proofs.Entering.{argument_refused, scans, has_room, writes}
use Rattle.string.proofs.parse_string_literal.Goals as goal

pub returns-in-Err : goal.returns-in-Err
returns-in-Err c = let refused = ap refused_with c.as_given.ensures in record { value = argument_refused _ _ _ _ _ _ c.argument_refuses.ensures c.in-Err.is refused; out_after = wrote_refused refused _ _ }

pub returns-in_err-scan : goal.returns-in_err-scan
returns-in_err-scan c =
    let p = err_from_is_err_and c.from_residual.result c.from_residual.ensures.1 in
    let passed = p.1 ∙ ap refused_with p.2 in
    record {
      value = passed ∙ sym c.in_err-scan.was ∙ scans _ _ _ _ _ _ c.argument_refuses.ensures c.in_default.is c.scan.ensures.value;
      out_after = wrote_refused passed _ _;
    }

pub returns : goal.returns
returns c =
    let asked = c.argument_refuses.ensures in
    let let_in = c.in_default.is in
    let value = c.scan-2.ensures.value in
    let yes = value ∙ sym c.scan.ensures.value ∙ c.in_ok-scan.was in
    record {
      value = scans _ _ _ _ _ _ asked let_in value;
      out_after = writes _ _ _ _ _ _ asked let_in value yes _ (accepted_kept _ _ yes c.scan-2.ensures.body_kept (has_room _ _ _ _ _ _ asked let_in value yes));
    }
