-- One byte leads on behind the other: proofs/scan/Leading.antt.
use Rattle.string.proofs.scan.Leading.{leads_then}
use Rattle.string.proofs.scan.add_bytes.Goals as goal

pub add_byte-one-requires : goal.add_byte-one-requires
add_byte-one-requires c = c.requires

pub add_byte-requires : goal.add_byte-requires
add_byte-requires c =
    (c.requires.0, (c.add_byte-one.ensures c.args.here.place).within)

pub returns : goal.returns
returns c start =
    leads_then _ _ _ _ _ (c.add_byte-one.ensures start) (c.add_byte.ensures start)

pub shape_of-out : goal.shape_of-out
shape_of-out c = (returns c c.args.here.place).same
