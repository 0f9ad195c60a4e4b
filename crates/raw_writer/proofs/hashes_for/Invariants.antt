-- What is left to measure from here, with the largest run so far, is what there was from the start.
use Prim.Native.Nat.{◌≤◌}
use mathlib.Core.Path.{◌≡◌}
use lib.ListN.{drop}
use Rattle.raw_writer.specs.Writer.{hashes_for}
use Rattle.raw_writer.proofs.Hashes.{largest}
use Rattle.raw_writer.proofs.hashes_for.Given as goal

abbrev pub invariant-loop-c : goal.invariant-loop-c
invariant-loop-c l = (l.held ≤ l.c-index) × (hashes_for l.body ≡ largest l.hashes l.held (drop l.c-index l.body))
