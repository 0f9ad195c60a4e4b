-- The loop halves the stretch of words that may hold the text. Assumes nothing.
use Rattle.book_lookup.proofs.seek.Sought.{seeking_start, behind, before, there, not_there}
use Rattle.book_lookup.proofs.seek.seek.Goals as goal

pub loop-lo-init : goal.loop-lo-init
loop-lo-init c = seeking_start _ _ _ c.args.contents.rows_within c.args.contents.counted

pub loop-lo-preserved-in-Less : goal.loop-lo-preserved-in-Less
loop-lo-preserved-in-Less c =
    behind _ _ _ _ c.loop-lo.invariant c.loop-lo-test.true _ c.text.ensures.result_value _ c.compare.ensures c.in-Less.is

pub loop-lo-preserved : goal.loop-lo-preserved
loop-lo-preserved c =
    before _ _ _ _ c.loop-lo.invariant c.loop-lo-test.true _ c.text.ensures.result_value _ c.compare.ensures c.in-Greater.is

pub returns-in-Equal-clause-value : goal.returns-in-Equal-clause-value
returns-in-Equal-clause-value c =
    there _ _ _ _ c.loop-lo.invariant c.loop-lo-test.true _ c.text.ensures.result_value _ c.compare.ensures c.in-Equal.is

pub returns-clause-value : goal.returns-clause-value
returns-clause-value c = not_there _ _ _ _ c.loop-lo.invariant c.loop-lo-test.false
