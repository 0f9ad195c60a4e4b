-- What is left after the underscores from here is what is left from the start.
use native.Mathlib.Omega.{arith}
use mathlib.Core.Path.{refl, sym, ◌∙◌}
use borrow.Author.Rules.{rules}
use Rattle.identifier.proofs.valid.Valids.{underscore, no_underscore, all_underscores}
use Rattle.identifier.proofs.valid.underscores.Goals as goal

pub loop-i-init : goal.loop-i-init
loop-i-init c = (search rules, refl)

pub returns-then-name-i-ne95 : goal.returns-then-name-i-ne95
returns-then-name-i-ne95 c =
    (sym (c.loop-i.invariant.1 ∙ no_underscore _ _ c.loop-i-test.true c.if-name-i-ne95.true), c.loop-i.invariant.0)

pub loop-i-preserved : goal.loop-i-preserved
loop-i-preserved c =
    (omega arith, c.loop-i.invariant.1 ∙ underscore _ _ c.loop-i-test.true c.if-name-i-ne95.false)

pub returns : goal.returns
returns c = (sym (c.loop-i.invariant.1 ∙ all_underscores _ _ c.loop-i-test.false), c.loop-i.invariant.0)
