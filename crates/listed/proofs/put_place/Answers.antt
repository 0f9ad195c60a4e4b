-- The part behind the index takes the form, or it has no room there.
use native.Mathlib.Omega.{arith}
use mathlib.Core.Path.{sym, ◌∙◌, ap}
use borrow.Author.Rules.{rules}
use Rattle.display.specs.Forms.{debug_of, shown_of}
use Rattle.basis.proofs.Stores.{stored_none, after_none}
use Rattle.listed.proofs.Puts.{put_told, next_of, part_next, part_memory, part_within}
use Rattle.listed.proofs.put_place.Goals as goal

pub returns-then-out-at : goal.returns-then-out-at
returns-then-out-at c = put_told _ _ _ (sym (after_none _ _ _ (omega (arith, c.if-out-at.true)))) (sym (stored_none _ _ _ (omega (arith, c.if-out-at.true))))

pub overflow_add-result : goal.overflow_add-result
unfolding shown_of
overflow_add-result c =
    let args = c.args in
    let within = part_within args.out.now args.at (debug_of args.place) c.if-out-at.false in
    search (rules, rw (← c.write.ensures.value, c.in-Ok.is) at within)

pub returns-in-Ok : goal.returns-in-Ok
unfolding shown_of
returns-in-Ok c =
    let h = c.if-out-at.false in
    put_told _ _ _ (ap (next_of _) (sym c.in-Ok.is ∙ c.write.ensures.value) ∙ part_next _ _ _ h) (rw c.write.ensures.out_after (part_memory _ _ _ h))

pub returns-in-Err : goal.returns-in-Err
unfolding shown_of
returns-in-Err c =
    let h = c.if-out-at.false in
    put_told _ _ _ (ap (next_of _) (sym c.in-Err.is ∙ c.write.ensures.value) ∙ part_next _ _ _ h) (rw c.write.ensures.out_after (part_memory _ _ _ h))
