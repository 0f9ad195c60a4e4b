-- The byte is read, or the text has ended there.
use native.Mathlib.Omega.{arith}
use mathlib.Core.Path.{sym}
use lib.ListN.{get_or-eq_default}
use Rattle.string.proofs.scan.byte_at.Goals as goal

pub overflow_cast-result : goal.overflow_cast-result
overflow_cast-result c = omega (arith, c.shared_slice_known-1.given c.args.at)

pub returns : goal.returns
returns c = sym (get_or-eq_default c.args.text.now 0 c.if-at-text.false)
