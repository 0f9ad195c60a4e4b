-- The loop goes from character to character, past ASCII by blocks: the text is well formed exactly if it is so from the offset reached on.
use Rattle.utf8.specs.Looks.{char_found}
use Prim.Native.Nat.{ℕ, ◌+◌, ◌≤◌}
use native.Mathlib.Omega.{arith}
use mathlib.Core.List.{List}
use mathlib.Core.Path.{◌≡◌, sym, ◌∙◌}
use lib.ListN.{length}
use Rattle.utf8.specs.Table.{look_at}
use Rattle.utf8.proofs.Laws.{well_char, well_end, well_done, at_width}
use Rattle.utf8.proofs.Widths.{wide_char, wide_none}
use Rattle.utf8.proofs.formed.Blocks.{well_ascii}
use Rattle.utf8.proofs.formed.check.Goals as goal
use Rattle.utf8.proofs.formed.check.Goals.{After-width-w}

-- where the width of a longer character is known
module _ (c : After-width-w) where
  abbrev text : List ℕ
  text = c.args.text.now

  abbrev w : ℕ
  w = c.width-w.result

  module _ (n : w ≡ 0 → ⊥) where
    found : (a : ℕ) × (look_at text c.loop-at.at ≡ char_found a w)
    found = wide_char text c.loop-at.at c.loop-at-test.true c.width-w.ensures n

    room : (1 ≤ w) × (c.loop-at.at + w ≤ length text) × (w ≤ 4)
    room = at_width text c.loop-at.at found.1

pub loop-at-smaller-then-a-lt128 : goal.loop-at-smaller-then-a-lt128
loop-at-smaller-then-a-lt128 c = let b = c.behind_ascii-at.ensures in omega (arith, b.0, b.1.ends)

pub loop-at-preserved-then-a-lt128 : goal.loop-at-preserved-then-a-lt128
loop-at-preserved-then-a-lt128 c =
    let b = c.behind_ascii-at.ensures in
    (b.1.ends, c.loop-at.invariant.1 ∙ well_ascii _ _ b.0 b.1)

pub returns-then-w-eq0 : goal.returns-then-w-eq0
returns-then-w-eq0 c =
    let inside = c.loop-at-test.true in
    sym (c.loop-at.invariant.1 ∙ well_end _ _ (wide_none _ _ inside c.width-w.ensures c.if-w-eq0.true) inside)

pub overflow_add-at : goal.overflow_add-at
overflow_add-at c = omega (arith, room (goal.at.overflow_add-at c).After-width-w c.if-w-eq0.false)

pub loop-at-smaller : goal.loop-at-smaller
loop-at-smaller c = omega (arith, room (goal.at.loop-at-smaller c).After-width-w c.if-w-eq0.false)

pub loop-at-preserved : goal.loop-at-preserved
loop-at-preserved c = ((room (goal.at.loop-at-preserved c).After-width-w c.if-w-eq0.false).1, c.loop-at.invariant.1 ∙ well_char _ _ (found (goal.at.loop-at-preserved c).After-width-w c.if-w-eq0.false).1)

pub returns : goal.returns
returns c = sym (c.loop-at.invariant.1 ∙ well_done _ _ c.loop-at-test.false)
