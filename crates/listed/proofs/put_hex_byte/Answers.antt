-- The copy of the two digits tells it.
use Rattle.listed.specs.Listing.{hex_byte}
use Rattle.listed.proofs.Puts.{put_told}
use Rattle.listed.proofs.put_hex_byte.Goals as goal

pub returns : goal.returns
unfolding hex_byte
returns c =
    rw (← c.digit.ensures, ← c.digit-2.ensures) (put_told _ _ _ c.copy.ensures.value c.copy.ensures.out_after)
