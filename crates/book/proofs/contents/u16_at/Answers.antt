-- Two bytes, the lower first. Assumes nothing.
use native.Mathlib.Omega.{arith}
use Rattle.book.specs.Contents.{u16_at}
use Rattle.book.proofs.contents.u16_at.Goals as goal

pub returns-clause-value : goal.returns-clause-value
unfolding u16_at
returns-clause-value c = omega arith
