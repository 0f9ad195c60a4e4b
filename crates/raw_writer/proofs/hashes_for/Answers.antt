-- What is left to measure from here, with the largest run so far, is what there was from the start.
use native.Mathlib.Omega.{arith}
use mathlib.Core.Path.{sym, ◌∙◌}
use lib.ListN.{get_or}
use Rattle.raw_writer.proofs.Hashes.{measure_start, measure_turn, measure_end, held_grows}
use Rattle.raw_writer.proofs.hashes_for.Goals as goal

pub loop-c-init : goal.loop-c-init
loop-c-init c = (omega arith, measure_start _)

pub loop-c-preserved : goal.loop-c-preserved
loop-c-preserved c =
    let grows = held_grows c.loop-c.held (get_or c.args.body.now c.loop-c.c-index 0) in (
      omega arith,
      rw (c.loop-c.invariant.1, measure_turn _ _ _ _ c.loop-c-test.true, ← c.next_held-held.ensures, ← c.max-hashes.ensures),
    )

pub returns : goal.returns
returns c = sym (c.loop-c.invariant.1 ∙ measure_end _ _ _ _ c.loop-c-test.false)
