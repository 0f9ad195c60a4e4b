-- A byte, where it has room, or what the encoder writes: proofs/Sizes.antt.
use Rattle.string.proofs.scan.Sizes.{put_low, put_nowhere}
use Rattle.string.proofs.scan.put.Goals as goal

pub returns-then-n-out : goal.returns-then-n-out
returns-then-n-out c = put_low _ _ _ c.if-c-lt128.true c.if-n-out.true

pub returns-else-n-out : goal.returns-else-n-out
returns-else-n-out c = let a = c.args in put_nowhere a.out.now a.n a.c c.if-c-lt128.true c.if-n-out.false
