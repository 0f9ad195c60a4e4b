-- Between two numbers what is still to be spelt goes where the whole was to go.
use mathlib.Core.Path.{sym}
use Rattle.lent.proofs.Writes.{refused, untouched}
use Rattle.numbers.proofs.Rows.{none_done, none_left, row_short, row_fits, begun, goes_on, row_done, row_left}
use Rattle.numbers.proofs.write_row.Goals as goal

pub returns-then-width-eq0 : goal.returns-then-width-eq0
returns-then-width-eq0 c = record { value = none_done _ _ _ c.if-width-eq0.true; out_after = none_left _ _ _ c.if-width-eq0.true }

pub returns-then-out-width : goal.returns-then-out-width
returns-then-out-width c = let short = row_short _ c.args.row.now c.args.out.now c.if-width-eq0.false c.if-out-width.true in record { value = sym (refused _ _ short); out_after = sym (untouched _ _ short) }

pub loop-n-init : goal.loop-n-init
loop-n-init c =
    begun _ _ _ (row_fits _ c.args.row.now c.args.out.now c.if-width-eq0.false c.if-out-width.false)

pub loop-n-preserved : goal.loop-n-preserved
loop-n-preserved c =
    goes_on c.loop-n.invariant c.loop-n-test.true c.put-at.ensures.value c.put-at.ensures.out_after

pub returns : goal.returns
returns c = record { value = row_done c.loop-n.invariant c.loop-n-test.false; out_after = row_left c.loop-n.invariant c.loop-n-test.false }
