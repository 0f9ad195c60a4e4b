-- The scan from here is the scan from the start; a turn that is over gives it.
use Prim.Native.Nat.{ℕ}
use native.Mathlib.Omega.{arith}
use mathlib.Core.List.{List}
use mathlib.Core.Path.{◌≡◌, refl, sym, subst, ◌∙◌}
use lib.ListN.{length}
use Rattle.chars.specs.Cursors.{cursor}
use Rattle.chars.specs.declared.cursor.Cursor.{Cursor}
use Rattle.chars.proofs.Stretches.{stretch_low}
use Rattle.comment.specs.Block.{comment_of}
use Rattle.comment.specs.Step.{LevelFits, TurnFits, led_on}
use Rattle.comment.proofs.scan.Turns.{goes_on, is_done, passes, passed_fine}
use Rattle.comment.proofs.scan.scan.Goals as goal
use Rattle.comment.proofs.scan.scan.Goals.{After-advanced_by, In-Continue}

-- the cursor behind what was passed
module _ (k : After-advanced_by) where
  abbrev text : List ℕ
  text = k.args.text.now

  abbrev here : Cursor
  here = cursor k.pass-passed.result.at k.advanced_by.result

  fine : LevelFits (length text) k.loop-n.depth here
  fine = passed_fine _ _ _ k.pass-passed.ensures.stretch_of k.advanced_by.ensures k.loop-n.invariant.0

  same : comment_of text k.loop-n.cursor k.loop-n.depth ≡ comment_of text here k.loop-n.depth
  same = passes _ _ _ k.pass-passed.ensures.stretch_of k.advanced_by.ensures

-- a turn that went on
module _ (c : In-Continue) where
  gone : TurnFits (length c.args.text.now) (cursor c.pass-passed.result.at c.advanced_by.result) (led_on c.in-Continue.n c.in-Continue.next)
  gone = subst (TurnFits (length c.args.text.now) (cursor c.pass-passed.result.at c.advanced_by.result)) c.in-Continue.is c.turn.ensures.turn_fits

pub loop-n-init : goal.loop-n-init
loop-n-init c = (omega arith, refl)

pub turn-requires : goal.turn-requires
turn-requires c = fine c

pub loop-n-smaller : goal.loop-n-smaller
loop-n-smaller c = omega (arith, gone c, stretch_low c.pass-passed.ensures.stretch_of)

pub loop-n-preserved : goal.loop-n-preserved
loop-n-preserved c =
    ((gone c).0, c.loop-n.invariant.1 ∙ same (goal.at.loop-n-preserved c).After-advanced_by ∙ goes_on _ _ _ _ _ (sym c.in-Continue.is ∙ c.turn.ensures.value))

pub returns-in-Break : goal.returns-in-Break
returns-in-Break c =
    sym (c.loop-n.invariant.1 ∙ same (goal.at.returns-in-Break c).After-advanced_by ∙ is_done _ _ _ _ _ (sym c.in-Break.is ∙ c.turn.ensures.value))
