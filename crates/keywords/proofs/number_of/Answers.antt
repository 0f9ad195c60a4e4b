-- The loop keeps the number of the bytes read.
use native.Mathlib.Omega.{arith}
use lib.ListN.{get_or}
use Rattle.token.proofs.word_table.Numbers.{read_none, read_all, read_fits, read_more}
use Rattle.keywords.proofs.number_of.Goals as goal

pub loop-b-init : goal.loop-b-init
loop-b-init c = read_none _ c.requires

pub overflow_mul-v : goal.overflow_mul-v
overflow_mul-v c = omega (arith, read_fits _ _ _ c.loop-b.invariant c.loop-b-test.true 0 (omega arith))

pub overflow_add-v : goal.overflow_add-v
overflow_add-v c =
    let top = c.loop-b in
    let byte = get_or c.args.text.now top.b-index 0 in
    omega (arith, c.from.ensures, read_fits _ _ _ top.invariant c.loop-b-test.true byte (omega (arith, c.type_inv.text top.b-index)))

pub loop-b-preserved : goal.loop-b-preserved
loop-b-preserved c =
    let top = c.loop-b in
    rw c.from.ensures (read_more _ _ _ top.invariant c.loop-b-test.true (omega (arith, c.type_inv.text top.b-index)))

pub returns : goal.returns
returns c = read_all _ _ _ c.loop-b.invariant c.loop-b-test.false
