-- The record of the definition.
use Rattle.position.specs.Place.{start}
use Rattle.reading.specs.Reading.{entries, literal_bytes}
use Rattle.run.proofs.refused.Goals as goal

pub returns : goal.returns
unfolding start entries literal_bytes
returns c = rw c.at.ensures
