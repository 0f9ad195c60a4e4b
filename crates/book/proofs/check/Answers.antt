-- One test for each condition, in the definition's order. Assumes nothing.
use Prim.Native.Nat.{ℕ}
use denote.Ref.{Bor}
use mathlib.Core.List.{List}
use mathlib.Core.Path.{ap}
use Rattle.book.proofs.Checks.{not_enough, too_many, not_running, not_all_fit, not_rising, all_right}
use Rattle.book.proofs.check.Goals as goal
use Rattle.book.proofs.check.Goals.{else-contents-le512-via-then-contents-le512+then-runs_on+then-all_fit+else-is_rising, else-contents-le512-via-then-contents-le512+then-runs_on+else-all_fit, else-contents-le512-via-then-contents-le512+else-runs_on, else-contents-le512-via-else-contents-le512}

pub returns-in_default : goal.returns-in_default
returns-in_default c = not_enough _ c.in_default.ensures.count

pub returns-then-is_rising : goal.returns-then-is_rising
returns-then-is_rising c =
    let has = c.in-Some.contents in
    let own = ap (λ (b : Bor (List ℕ)). b.now) c.in-Some.ensures.book in
    rw (← own) (all_right _ has.rows_within _ has.counted c.if-contents-le512.true _ c.runs_on.ensures c.if-runs_on.true _ c.all_fit.ensures c.if-all_fit.true _ c.is_rising.ensures c.if-is_rising.true)

pub returns-else-contents-le512 : goal.returns-else-contents-le512
returns-else-contents-le512 c =
    let has = c.in-Some.contents in
    let own = ap (λ (b : Bor (List ℕ)). b.now) c.in-Some.ensures.book in
    rw (← own)
    (elim c.else-contents-le512.branch [
      | else-contents-le512-via-then-contents-le512+then-runs_on+then-all_fit+else-is_rising w ↦ not_rising _ has.rows_within _ has.counted w.if-contents-le512.true _ w.runs_on.ensures w.if-runs_on.true _ w.all_fit.ensures w.if-all_fit.true _ w.is_rising.ensures w.if-is_rising.false
      | else-contents-le512-via-then-contents-le512+then-runs_on+else-all_fit w ↦ not_all_fit _ has.rows_within _ has.counted w.if-contents-le512.true _ w.runs_on.ensures w.if-runs_on.true _ w.all_fit.ensures w.if-all_fit.false
      | else-contents-le512-via-then-contents-le512+else-runs_on w ↦ not_running _ has.rows_within _ has.counted w.if-contents-le512.true _ w.runs_on.ensures w.if-runs_on.false
      | else-contents-le512-via-else-contents-le512 w ↦ too_many _ has.rows_within _ has.counted w.if-contents-le512.false
    ])
