-- A byte of ASCII is a character.
use native.Mathlib.Omega.{arith}
use Rattle.raw.proofs.scan.Passing.{one_byte}
use Rattle.raw.proofs.scan.Body.pass.Goals as goal

pub pass_quote-requires : goal.pass_quote-requires
pass_quote-requires c = (c.requires.0, c.requires.1, one_byte _ _ c.if-self-at.false c.in-34.is (omega arith))

pub pass_line-requires : goal.pass_line-requires
pass_line-requires c = (c.requires.1, one_byte _ _ c.if-self-at.false c.in-10.is (omega arith))
