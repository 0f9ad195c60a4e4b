-- Each return is a law of proofs/Turning.antt on a turn under a limit.
use mathlib.Core.Path.{ap}
use Rattle.literal.specs.Scans.{refused_with}
use Rattle.string.proofs.scan.Turning.{turn_long, turn_over, turn_stops, turn_on}
use Rattle.string.proofs.scan.turn.Goals as goal

pub returns-in-Break : goal.returns-in-Break
returns-in-Break c = search turn_over

pub returns-then-is_over : goal.returns-then-is_over
returns-then-is_over c = turn_long _ _ _ _ _ _ _ c.take.ensures c.in-Continue.is c.is_over.ensures c.if-is_over.true (ap refused_with c.too_long.ensures)

pub returns-in-Break-act : goal.returns-in-Break-act
returns-in-Break-act c = search turn_stops

pub returns-in-Continue-act : goal.returns-in-Continue-act
returns-in-Continue-act c = search turn_on
