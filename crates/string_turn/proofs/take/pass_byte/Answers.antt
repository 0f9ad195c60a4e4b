-- Nothing is passed, or a stretch of one byte: proofs/Passing.antt.
use native.Mathlib.Omega.{arith}
use Rattle.string_turn.specs.Passing.{none}
use Rattle.string_turn.proofs.take.Passing.{byte_passed}
use Rattle.string_turn.proofs.take.pass_byte.Goals as goal

pub returns-then-text-at : goal.returns-then-text-at
returns-then-text-at c = record { string_passes = none; at_bound = omega arith }

pub overflow_cast-text : goal.overflow_cast-text
overflow_cast-text c = omega (arith, c.shared_slice_known-2-1.given c.args.from.at)

pub returns-then-is_plain : goal.returns-then-is_plain
returns-then-is_plain c = record { string_passes = byte_passed _ _ _ (omega (arith, c.if-text-at.false)) c.is_plain.ensures c.if-is_plain.true c.advanced_by.ensures c.advanced.ensures c.or_else-first.ensures; at_bound = omega arith }

pub returns : goal.returns
returns c = record { string_passes = none; at_bound = omega arith }
