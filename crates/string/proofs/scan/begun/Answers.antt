-- The state is the one that the definition names; NONE is 0:0.
use Rattle.position.proofs.Moves.{none_is}
use Rattle.string.specs.Reading.{string_begun}
use Rattle.string.proofs.scan.begun.Goals as goal

pub returns : goal.returns
unfolding string_begun
returns c = rw none_is
