-- What the run leaves is put out, then its ending.
use borrow.Author.Rules.{rules}
use Rattle.listed.proofs.Runs.{entries_room, run_put}
use Rattle.listed.proofs.list_run.Goals as goal

pub put_entries-at-requires : goal.put_entries-at-requires
put_entries-at-requires c =
    entries_room c.args.script.now c.args.literals.now c.args.entries.now c.run-ran.ensures _ (search rules)

pub returns : goal.returns
returns c =
    run_put _ _ _ c.run-ran.ensures _ c.put_entries-at.ensures c.put_ending.ensures
