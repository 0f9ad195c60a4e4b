-- A raw literal, or one with a terminator.
use mathlib.Core.Path.{◌∙◌}
use Rattle.script.specs.Rules.{document01}
use Rattle.turn.proofs.Literals.{raw_trace_lem, string_trace_lem, string_cut}
use Rattle.turn.proofs.measure.Goals as goal

pub returns-then-opener-eq-HASH : goal.returns-then-opener-eq-HASH
returns-then-opener-eq-HASH c = let is = raw_trace_lem document01 c.args.text.now c.args.opener c.args.from c.if-opener-eq-HASH.true in record { value = rw is c.measure.ensures; body_kept = λ n. absurd (n c.if-opener-eq-HASH.true) }

pub returns-else-opener-eq-HASH : goal.returns-else-opener-eq-HASH
returns-else-opener-eq-HASH c = record { value = c.scan.ensures.value ∙ string_cut document01 c.args.text.now c.args.opener c.args.from c.if-opener-eq-HASH.false _ _; body_kept = λ n. rw (string_trace_lem document01 c.args.text.now c.args.opener c.args.from n) c.scan.ensures.body_kept }
