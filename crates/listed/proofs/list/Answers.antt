-- By the branch that was taken.
use Rattle.basis.specs.Words.{word}
use Rattle.listed.proofs.Puts.{ended_within}
use Rattle.listed.proofs.Runs.{lists_long, lists_short}
use Rattle.listed.proofs.list.Goals as goal

pub returns-then-script-gt32768 : goal.returns-then-script-gt32768
unfolding word
returns-then-script-gt32768 c =
    let text = lists_long _ _ c.if-script-gt32768.true c.put_word.ensures in
    record { within = ended_within _ _ text; text = text }

pub returns : goal.returns
returns c =
    let text = lists_short _ _ c.if-script-gt32768.false c.list_run.ensures in
    record { within = ended_within _ _ text; text = text }
