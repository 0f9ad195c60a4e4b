-- The loop passes the words that start where the one before ends. Assumes nothing.
use Rattle.book.proofs.contents.Parts.{row_start, row_size}
use Rattle.book.proofs.Words.{running_start, gap, running_next, running_end}
use Rattle.book.proofs.runs_on.Goals as goal

pub loop-k-init : goal.loop-k-init
loop-k-init c = running_start _ _ c.args.contents.counted c.args.contents.words_bound

pub returns-then-row-at : goal.returns-then-row-at
returns-then-row-at c =
    gap _ _ _ _ c.loop-k.invariant c.loop-k-test.true _ (row_start _ _ _ c.row-row.ensures.value) c.if-row-at.true

pub loop-k-preserved : goal.loop-k-preserved
loop-k-preserved c =
    let row = c.row-row.ensures in
    running_next _ _ _ _ c.loop-k.invariant c.loop-k-test.true _ (row_start _ _ _ row.value) _ c.if-row-at.false (row_size _ _ _ row.value) row.start_bound.1

pub returns : goal.returns
returns c = running_end _ _ _ _ c.loop-k.invariant c.loop-k-test.false
