-- The copy tells it.
use Rattle.listed.proofs.Puts.{put_told}
use Rattle.listed.proofs.put_byte.Goals as goal

pub returns : goal.returns
returns c = put_told _ _ _ c.copy.ensures.value c.copy.ensures.out_after
