-- An attempt without a hash, or one with fewer than k.
use native.Mathlib.Omega.{arith}
use Rattle.utf8.proofs.Laws.{at_width}
use Rattle.raw.specs.Step.{none}
use Rattle.raw.proofs.scan.Body.pass_quote.Goals as goal

pub pass_attempt-alone-requires : goal.pass_attempt-alone-requires
pass_attempt-alone-requires c = (c.requires.1, omega (arith, c.requires.0), c.requires.2, none)

pub overflow_add-s : goal.overflow_add-s
overflow_add-s c = omega (arith, (at_width _ _ c.requires.2).1, c.well_formed)

pub hashes_at-hashes-requires : goal.hashes_at-hashes-requires
hashes_at-hashes-requires c = (at_width _ _ c.requires.2).1

pub pass_attempt-requires : goal.pass_attempt-requires
pass_attempt-requires c = (c.requires.1, c.if-hashes-self.true, c.requires.2, c.hashes_at-hashes.ensures)
