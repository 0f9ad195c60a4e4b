-- The rows of the encoder: laws of proofs/Sizes.antt.
use native.Mathlib.Omega.{arith}
use Rattle.string.proofs.scan.Sizes.{size0, size1, size2, size3, size4}
use Rattle.string.proofs.scan.size.Goals as goal

pub returns-in-0-to-127 : goal.returns-in-0-to-127
returns-in-0-to-127 c = size1 _ (omega arith)

pub returns-in_default : goal.returns-in_default
returns-in_default c = search size0

pub returns-in-128-to-2047 : goal.returns-in-128-to-2047
returns-in-128-to-2047 c = search (size2, arith)

pub returns-in-2048-to-65535 : goal.returns-in-2048-to-65535
returns-in-2048-to-65535 c = search (size3, arith)

pub returns-in_default-2 : goal.returns-in_default-2
returns-in_default-2 c = search (size4, arith)
