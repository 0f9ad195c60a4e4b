-- A count of 0 says that the opening is still to come. What it leads to from here, with the hashes counted so far, is what it leads to from the first hash on.
use Rattle.chars.specs.Takes.{char_taken}
use Prim.Native.Nat.{◌≤◌, ◌<◌}
use native.Mathlib.Omega.{arith}
use mathlib.Core.Path.{◌≡◌, refl, sym, ◌∙◌}
use lib.ListN.{length}
use Rattle.chars.specs.Cursors.{eat_next_of}
use Rattle.chars.specs.declared.cursor.Cursor.{Cursor}
use Rattle.chars.proofs.Cursors.{ate_took, further}
use Rattle.raw.specs.Opening.{opened_of}
use Rattle.raw.proofs.open.Openings.{counting, cut_off_lem, hash_on, quote_on, no_quote, is_fresh, is_resumed}
use Rattle.raw.proofs.open.open.Goals as goal
use Rattle.raw.proofs.open.open.Goals.{At-loop-c, In-Some}

-- the whole opening, as it is left at a turn
module _ (k : At-loop-c) where
  so_far : opened_of k.args.text.now k.args.start k.args.hashes ≡ counting k.args.start.place k.args.text.now k.loop-c.k k.loop-c.from
  so_far = is_fresh k.args.text.now k.args.start k.if-hashes-ne0.false ∙ k.loop-c.invariant.1

-- the character that was taken
module _ (k : In-Some) where
  abbrev next : Cursor
  next = k.in-Some.next

  ate : eat_next_of k.args.text.now k.loop-c.from ≡ char_taken k.in-Some.c next
  ate = sym k.eat_next_and_advance.ensures ∙ k.in-Some.is

  on : (k.loop-c.from.at < next.at) × (next.at ≤ length k.args.text.now)
  on = further _ _ _ (ate_took _ _ ate)

pub returns-then-hashes-ne0 : goal.returns-then-hashes-ne0
returns-then-hashes-ne0 c = sym (is_resumed _ _ c.if-hashes-ne0.true)

pub loop-c-init : goal.loop-c-init
loop-c-init c = (omega arith, refl)

pub returns-in_default : goal.returns-in_default
returns-in_default c =
    c.refuse.ensures ∙ sym (so_far (goal.at.returns-in_default c).At-loop-c ∙ cut_off_lem _ _ _ _ (sym c.eat_next_and_advance.ensures ∙ c.in_default.is))

pub returns-in-34 : goal.returns-in-34
returns-in-34 c = sym (so_far (goal.at.returns-in-34 c).At-loop-c ∙ quote_on _ _ _ _ (ate (goal.at.returns-in-34 c).In-Some) c.in-34.is)

pub overflow_sub-part : goal.overflow_sub-part
overflow_sub-part c = omega (arith, on (goal.at.overflow_sub-part c).In-Some)

pub returns-in_default-c : goal.returns-in_default-c
returns-in_default-c c =
    let other : (c.in-Some.c ≡ 34 → ⊥) × (c.in-Some.c ≡ 35 → ⊥) = (λ q. omega (arith, q), λ q. omega (arith, q)) in
    c.refuse-in_default-c.ensures ∙ sym (so_far (goal.at.returns-in_default-c c).At-loop-c ∙ no_quote _ _ _ _ (ate (goal.at.returns-in_default-c c).In-Some) other.0 other.1)

pub overflow_add-k : goal.overflow_add-k
overflow_add-k c = omega (arith, on (goal.at.overflow_add-k c).In-Some, c.loop-c.invariant.0)

pub loop-c-smaller : goal.loop-c-smaller
loop-c-smaller c = omega (arith, on (goal.at.loop-c-smaller c).In-Some)

pub loop-c-preserved : goal.loop-c-preserved
loop-c-preserved c =
    (omega (arith, on (goal.at.loop-c-preserved c).In-Some, c.loop-c.invariant.0), c.loop-c.invariant.1 ∙ hash_on _ _ _ _ (ate (goal.at.loop-c-preserved c).In-Some) c.in-35.is)
