-- What is still to be put goes where the whole was to go.
use mathlib.Core.Path.{refl, sym, ◌∙◌}
use borrow.Author.Rules.{rules}
use Rattle.basis.specs.Words.{word}
use Rattle.listed.specs.Texts.{puts}
use Rattle.listed.proofs.Puts.{puts_none, puts_first}
use Rattle.listed.proofs.Lines.{hex_none, hex_some, hexes_here, hexes_past}
use Rattle.listed.proofs.put_hex.Goals as goal

pub returns-then-is_empty : goal.returns-then-is_empty
unfolding word puts
returns-then-is_empty c = rw (hex_none c.args.bytes.now (search (rules, c.is_empty.ensures, c.if-is_empty.true))) c.put_byte.ensures

pub loop-b-init : goal.loop-b-init
loop-b-init c = (refl, refl)

pub loop-b-preserved : goal.loop-b-preserved
loop-b-preserved c =
    (search rules, c.loop-b.invariant.1 ∙ rw (hexes_here _ _ c.loop-b-test.true) (puts_first _ _ _ c.put_hex_byte-n.ensures))

pub returns : goal.returns
returns c =
    sym (rw (hex_some c.args.bytes.now (search (rules, c.is_empty.ensures, c.if-is_empty.false))) (c.loop-b.invariant.1 ∙ rw (hexes_past _ _ c.loop-b-test.false) (puts_none _)))
