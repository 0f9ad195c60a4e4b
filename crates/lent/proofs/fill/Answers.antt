-- The place is the bytes' own, or there is none.
use Prim.Native.Nat.{ℕ}
use mathlib.Core.Path.{◌≡◌, sym, ap, ◌∙◌}
use native.Mathlib.Omega.{arith}
use borrow.Rule.Slice.PartMut.{mid_len}
use lib.ListN.{length, replicate, length-replicate}
use Rattle.basis.proofs.Stores.{stored_none, after_none}
use Rattle.lent.proofs.Places.{placed, placed_end}
use Rattle.lent.proofs.fill.Goals as goal

pub returns-in_default : goal.returns-in_default
returns-in_default c = record { value = sym (after_none _ _ _ (rw (length-replicate _ _) (omega arith))); out_after = sym (stored_none _ _ _ (rw (length-replicate _ _) (omega arith))) }

pub returns : goal.returns
returns c =
    let l = c.args.out.now in
    let whole = replicate c.args.n c.args.b in
    let long : length whole ≡ c.args.n = length-replicate _ _ in
    let same : c.fill.new.self ≡ whole = c.fill.ensures.after (λ y e. e) ∙ ap (λ (n : ℕ). replicate n c.args.b) (mid_len c.args.at c.in-Some.end l (omega arith) ∙ omega arith) in
    record { value = placed_end l _ _ whole (omega arith) (omega arith); out_after = placed l _ _ whole (omega arith) (omega arith) _ same }
