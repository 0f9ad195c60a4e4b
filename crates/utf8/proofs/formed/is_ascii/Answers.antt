-- As long as no byte above 7F was met, all so far are ASCII.
use native.Mathlib.Omega.{arith}
use mathlib.Core.Path.{◌≡◌, refl, sym}
use Rattle.basis.proofs.Cases.{not_both}
use Rattle.utf8.proofs.formed.Blocks.{no_ascii, more_ascii}
use Rattle.utf8.proofs.formed.is_ascii.Goals as goal

pub returns-then-text-at : goal.returns-then-text-at
returns-then-text-at c y = not_both y refl

pub loop-i-init : goal.loop-i-init
loop-i-init c = (omega arith, omega (arith, c.requires, c.if-text-at.false), λ y. no_ascii _ _ c.requires)

pub overflow_add-b : goal.overflow_add-b
overflow_add-b c = omega (arith, c.loop-i.invariant, c.loop-i-test.true)

pub bounds-text-at : goal.bounds-text-at
bounds-text-at c = omega (arith, c.loop-i.invariant, c.loop-i-test.true)

pub overflow_add-i : goal.overflow_add-i
overflow_add-i c = omega (arith, c.loop-i.invariant, c.loop-i-test.true)

pub loop-i-smaller-then-b-gt127 : goal.loop-i-smaller-then-b-gt127
loop-i-smaller-then-b-gt127 c = omega (arith, c.loop-i-test.true)

pub loop-i-preserved-then-b-gt127 : goal.loop-i-preserved-then-b-gt127
loop-i-preserved-then-b-gt127 c = (omega (arith, c.loop-i-test.true), c.loop-i.invariant.1, λ y. not_both y refl)

pub loop-i-smaller : goal.loop-i-smaller
loop-i-smaller c = omega (arith, c.loop-i-test.true)

pub loop-i-preserved : goal.loop-i-preserved
loop-i-preserved c =
    let inv = c.loop-i.invariant in
    (omega (arith, c.loop-i-test.true), inv.1, λ y. more_ascii _ _ _ (inv.2 y) (omega (arith, inv.1, c.loop-i-test.true)) (omega (arith, c.if-b-gt127.false)))

pub returns : goal.returns
returns c y =
    let e : c.loop-i.i ≡ c.args.n = omega (arith, c.loop-i.invariant.0, c.loop-i-test.false) in
    rw (sym e) (c.loop-i.invariant.2 y)
