-- The place is the number's own, or there is none.
use native.Mathlib.Omega.{arith}
use mathlib.Core.Path.{◌≡◌, sym, ◌∙◌}
use lib.ListN.{length}
use borrow.Rule.Slice.PartMut.{mid_len}
use Rattle.basis.proofs.Stores.{stored_none, after_none}
use Rattle.lent.proofs.Places.{placed, placed_end}
use Rattle.numbers.specs.Spell.{spell}
use Rattle.numbers.proofs.Rows.{length_spell, spell_on, spell_end}
use Rattle.numbers.proofs.put.Goals as goal

pub returns-in_default : goal.returns-in_default
returns-in_default c = record { value = sym (after_none _ _ _ (rw (length_spell _ _) (omega arith))); out_after = sym (stored_none _ _ _ (rw (length_spell _ _) (omega arith))) }

pub loop-byte-preserved : goal.loop-byte-preserved
loop-byte-preserved c =
    let long : length c.loop-byte.byte-items ≡ c.args.width = c.loop-byte.auto.byte-items ∙ mid_len c.args.at c.in-Some.end c.args.out.now (omega arith) ∙ omega arith in
    spell_on c.loop-byte.byte-items _ _ c.loop-byte.rest long (omega arith) ∙ c.loop-byte.invariant

pub returns : goal.returns
returns c =
    let l = c.args.out.now in
    let whole = spell c.args.width c.args.n in
    let wide : length whole ≡ c.args.width = length_spell _ _ in
    let long : length c.loop-byte.byte-items ≡ c.args.width = c.loop-byte.auto.byte-items ∙ mid_len c.args.at c.in-Some.end l (omega arith) ∙ omega arith in
    let same = sym (spell_end c.loop-byte.byte-items _ _ c.loop-byte.rest long (omega arith)) ∙ c.loop-byte.invariant in
    record { value = placed_end l _ _ whole (omega arith) (omega arith); out_after = placed l _ _ whole (omega arith) (omega arith) _ same }
