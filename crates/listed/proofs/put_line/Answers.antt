-- The pieces, one behind the other.
use Rattle.basis.specs.Words.{word}
use Rattle.listed.proofs.Puts.{and_put, and_puts}
use Rattle.listed.proofs.Lines.{line_put}
use Rattle.listed.proofs.put_line.Goals as goal

pub returns : goal.returns
unfolding word
returns c =
    let named = and_put (and_put (and_put c.put_place-n.ensures _ c.put_byte-n.ensures) _ (rw c.kind_name.ensures at c.put_word-n.ensures)) _ c.put_byte-n-2.ensures in
    line_put _ _ _ _ (and_put (and_puts named _ c.put_hex-n.ensures) _ c.put_byte.ensures)
