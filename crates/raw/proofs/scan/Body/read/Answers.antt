-- What a limit and a room leave of the reading from here is the whole answer: proofs/scan/Stands.antt.
use Rattle.chars.specs.Takes.{char_taken}
use native.Mathlib.Omega.{arith}
use mathlib.Core.Path.{◌≡◌, refl, sym, ap, ◌∙◌}
use Rattle.position.proofs.Moves.{none_is}
use Rattle.chars.specs.Cursors.{eat_next_of}
use Rattle.chars.specs.declared.cursor.Cursor.{Cursor}
use Rattle.literal.specs.Scans.{refused_with}
use Rattle.raw.specs.declared.scan.Stand.{Stand}
use Rattle.raw.proofs.scan.Stands.{Stands, begins, passed, runs_out, less, held_low, is_behind, is_read, closes, is_full, is_too_long, goes_on}
use Rattle.raw.proofs.scan.Body.read.Goals as goal
use Rattle.raw.proofs.scan.Body.read.Goals.{After-eat_next_and_advance, In-Some}

-- where it stands behind what was passed
module _ (e : After-eat_next_and_advance) where
  abbrev there : Stand
  there = e.ahead-s.result

  stands : Stands e.args.self.text.now e.args.start e.args.from e.args.self.k e.args.self.limit e.args.self.room there.here there.first e.loop-c.held there.n
  stands = passed _ _ _ _ _ _ e.loop-c.invariant e.ahead-s.ensures

-- the character that was taken
module _ (k : In-Some) where
  ate : eat_next_of k.args.self.text.now k.ahead-s.result.here ≡ char_taken k.in-Some.c k.in-Some.next
  ate = sym k.eat_next_and_advance.ensures ∙ k.in-Some.is

pub loop-c-init : goal.loop-c-init
loop-c-init c = begins _ _ _ _ _ _ none_is

pub ahead-s-requires : goal.ahead-s-requires
ahead-s-requires c = (c.requires, c.loop-c.invariant.has_room)

pub returns-in_default : goal.returns-in_default
returns-in_default c =
    c.accept.ensures ∙ runs_out _ _ _ _ _ _ (stands (goal.at.returns-in_default c).After-eat_next_and_advance) (sym c.eat_next_and_advance.ensures ∙ c.in_default.is)

pub holds-held-requires : goal.holds-held-requires
holds-held-requires c =
    let low = held_low _ _ _ _ _ _ (stands (goal.at.holds-held-requires c).After-eat_next_and_advance) (ate (goal.at.holds-held-requires c).In-Some) in
    let there : c.behind-here.result.at ≡ c.in-Some.next.at = ap (λ (x : Cursor). x.at) c.behind-here.ensures in
    omega arith

pub returns-then-self-held : goal.returns-then-self-held
returns-then-self-held c =
    c.accept-then-self-held.ensures ∙ closes _ _ _ _ _ _ (stands (goal.at.returns-then-self-held c).After-eat_next_and_advance) (ate (goal.at.returns-then-self-held c).In-Some) c.requires c.holds-held.ensures c.if-self-held.true

pub overflow_sub-s : goal.overflow_sub-s
overflow_sub-s c = is_behind _ _ _ _ _ _ (stands (goal.at.overflow_sub-s c).After-eat_next_and_advance) (ate (goal.at.overflow_sub-s c).In-Some) c.requires c.holds-held.ensures

pub overflow_sub-s-in-loop-c : goal.overflow_sub-s-in-loop-c
overflow_sub-s-in-loop-c c = is_read _ _ _ _ _ _ (stands (goal.at.overflow_sub-s-in-loop-c c).After-eat_next_and_advance) (ate (goal.at.overflow_sub-s-in-loop-c c).In-Some) c.requires c.holds-held.ensures

pub returns-then-self-s : goal.returns-then-self-s
returns-then-self-s c =
    ap refused_with c.as_given.ensures
    ∙ is_full _ _ _ _ _ _ (stands (goal.at.returns-then-self-s c).After-eat_next_and_advance) (ate (goal.at.returns-then-self-s c).In-Some) c.requires c.holds-held.ensures c.behind-here.ensures c.or_else.ensures c.if-self-held.false refl c.if-self-s.true

pub returns-then-is_over : goal.returns-then-is_over
returns-then-is_over c =
    ap refused_with c.too_long.ensures
    ∙ is_too_long _ _ _ _ _ _ (stands (goal.at.returns-then-is_over c).After-eat_next_and_advance) (ate (goal.at.returns-then-is_over c).In-Some) c.requires c.holds-held.ensures c.behind-here.ensures c.or_else.ensures c.if-self-held.false refl c.if-self-s.false (sym c.is_over.ensures ∙ c.if-is_over.true)

pub loop-c-smaller : goal.loop-c-smaller
loop-c-smaller c =
    omega (arith, less _ _ _ _ _ _ (stands (goal.at.loop-c-smaller c).After-eat_next_and_advance) (ate (goal.at.loop-c-smaller c).In-Some) c.behind-here.ensures, c.ahead-s.ensures.low)

pub loop-c-preserved : goal.loop-c-preserved
loop-c-preserved c =
    goes_on _ _ _ _ _ _ (stands (goal.at.loop-c-preserved c).After-eat_next_and_advance) (ate (goal.at.loop-c-preserved c).In-Some) c.requires c.holds-held.ensures c.behind-here.ensures c.or_else.ensures c.if-self-held.false refl c.if-self-s.false (sym c.is_over.ensures ∙ c.if-is_over.false)
