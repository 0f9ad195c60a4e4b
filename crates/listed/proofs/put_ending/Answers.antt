-- Each arm puts the pieces of its case, one behind the other.
use Rattle.basis.specs.Words.{word}
use Rattle.listed.specs.Texts.{puts}
use Rattle.listed.specs.Listing.{ending_line}
use Rattle.listed.proofs.Puts.{and_put}
use Rattle.listed.proofs.put_ending.Goals as goal

pub returns-in-Ok : goal.returns-in-Ok
unfolding word puts ending_line
returns-in-Ok c =
    rw c.in-Ok.is (and_put (and_put c.put_word-n.ensures _ c.put_place-n.ensures) _ c.put_byte.ensures)

pub returns-in-Err : goal.returns-in-Err
unfolding word puts ending_line
returns-in-Err c =
    rw c.in-Err.is
    (and_put (and_put (and_put (and_put c.put_word-n-in-Err.ensures _ (rw c.number.ensures at c.put_number-n.ensures)) _ c.put_byte-n.ensures) _ c.put_place-n-in-Err.ensures) _ c.put_byte-in-Err.ensures)
