-- The line of what the five numbers give.
use Rattle.listed.proofs.Lines.{entry_put}
use Rattle.listed.proofs.put_entry.Goals as goal

pub returns : goal.returns
returns c =
    let args = c.args in
    entry_put _ _ args.entries.now _ c.coordinate.ensures c.coordinate-2.ensures c.given-place.ensures c.bytes_of-bytes.ensures c.put_line.ensures
