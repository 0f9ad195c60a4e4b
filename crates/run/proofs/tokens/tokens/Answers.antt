-- Between two turns what the run will have left is what it would have left from the start: proofs/Finishes.antt.
use Prim.Native.Nat.{◌/◌}
use native.Mathlib.Omega.{arith}
use native.Mathlib.Nat.{mul-zero}
use mathlib.Core.Path.{◌≡◌, refl, sym, ap, ◌∙◌}
use lib.ListN.{length}
use borrow.Author.Rules.{rules}
use Rattle.position.specs.Place as Place
use Rattle.reading.specs.CutRun.{cut_run}
use Rattle.reading.specs.declared.Bounds.{Bounds}
use Rattle.script.specs.Rules.{document01}
use Rattle.script.specs.Script.{script_of}
use Rattle.script.proofs.Counts.{uncounted_state}
use Rattle.run.specs.Run.{holds}
use Rattle.run.proofs.Finishes.{run_fine, run_on, run_listed, run_more, run_over}
use Rattle.run.proofs.Runs.{run_begun, done}
use Rattle.run.proofs.Rows.{entry_next, entry_room, entries_fit}
use Rattle.run.proofs.tokens.tokens.Given.{Over}
use Rattle.run.proofs.tokens.tokens.Goals as goal
use Rattle.run.proofs.tokens.tokens.Goals.{At-loop-to}

pub loop-to-init : goal.loop-to-init
unfolding Place.start
loop-to-init g c =
    let part = g.P.Part in
    let laws = g.met.P.Part in
    rw (c.begun-s.ensures, c.fresh-room.ensures, laws.each c.args.entries.now, c.WIDTH.ensures) (run_begun _ _ document01 _ _ _ _ _ refl, refl, refl)

module _ (g : Over) (loop : At-loop-to g) where
  -- the literal bytes that there is room for, and the entries
  lent : loop.loop-to.room.bounds.literals ≡ length loop.args.literals.now
  lent = ap (λ (b : Bounds). b.literals) loop.loop-to.invariant.1

  room : loop.loop-to.room.bounds.entries ≡ length (g.P.Part.numbers loop.args.entries.now) / g.P.Part.WIDTH
  room = ap (λ (b : Bounds). b.entries) loop.loop-to.invariant.1

pub turn-turned-requires : goal.turn-turned-requires
turn-turned-requires g c =
    let run = c.loop-to.invariant.0 in
    (c.requires.0, run.stands.within, sym run.room, rw run.room run.stands.room)

-- ---- nothing is listed
pub loop-to-smaller-in-On : goal.loop-to-smaller-in-On
loop-to-smaller-in-On g c =
    let on = run_on _ _ _ _ _ _ c.requires.1 c.loop-to.invariant.0 c.turn-turned.result (c.turn-turned.ensures c.loop-to.s.braces) c.in-On.is in
    omega (arith, on.0, on.1.stands.within)

pub loop-to-preserved-in-On : goal.loop-to-preserved-in-On
loop-to-preserved-in-On g c =
    ((run_on _ _ _ _ _ _ c.requires.1 c.loop-to.invariant.0 c.turn-turned.result (c.turn-turned.ensures c.loop-to.s.braces) c.in-On.is).1, c.loop-to.invariant.1, c.loop-to.invariant.2)

pub store-requires : goal.store-requires
store-requires g c =
    let laws = g.met.P.Part in
    let run = c.loop-to.invariant.0 in
    let fits = run_listed _ _ _ _ _ _ c.requires.1 run c.turn-turned.result (c.turn-turned.ensures c.loop-to.s.braces) _ c.in-Listed.is in
    (omega (arith, fits.0.0), omega (arith, fits.0.1), rw (← laws.each c.loop-to.entries, run.entries) (entry_room _ _ laws.wide _ _ _ (room g (goal.at.store-requires g c).At-loop-to) fits.1))

pub overflow_add-room : goal.overflow_add-room
overflow_add-room g c =
    let run = c.loop-to.invariant.0 in
    omega (arith, run.stands.short, run.stands.within, c.requires.1)

pub behind-s-requires : goal.behind-s-requires
behind-s-requires g c =
    run_fine _ _ _ _ _ _ c.requires.1 c.loop-to.invariant.0 c.turn-turned.result (c.turn-turned.ensures c.loop-to.s.braces) c.given-passed.ensures

pub loop-to-smaller-then-counts : goal.loop-to-smaller-then-counts
loop-to-smaller-then-counts g c =
    let more = run_more _ _ _ _ _ _ c.requires.1 c.loop-to.invariant.0 c.turn-turned.result (c.turn-turned.ensures c.loop-to.s.braces) _ c.in-Listed.is (entry_next _ _ g.met.P.Part.wide _ _) _ c.store.ensures _ c.given-passed.ensures _ c.behind-s.ensures in
    omega (arith, more.0, more.1.stands.within)

pub loop-to-preserved-then-counts : goal.loop-to-preserved-then-counts
loop-to-preserved-then-counts g c =
    ((run_more _ _ _ _ _ _ c.requires.1 c.loop-to.invariant.0 c.turn-turned.result (c.turn-turned.ensures c.loop-to.s.braces) _ c.in-Listed.is (entry_next _ _ g.met.P.Part.wide _ _) _ c.store.ensures _ c.given-passed.ensures _ c.behind-s.ensures).1, c.loop-to.invariant.1, c.store.auto.entries ∙ c.loop-to.invariant.2)

pub loop-to-smaller : goal.loop-to-smaller
loop-to-smaller g c =
    let plain = uncounted_state _ _ c.loop-to.s (sym c.counts.ensures ∙ c.if-counts.false) in
    let more = run_more _ _ _ _ _ _ c.requires.1 c.loop-to.invariant.0 c.turn-turned.result (c.turn-turned.ensures c.loop-to.s.braces) _ c.in-Listed.is (entry_next _ _ g.met.P.Part.wide _ _) _ c.store.ensures _ c.given-passed.ensures _ plain in
    omega (arith, more.0, more.1.stands.within)

pub loop-to-preserved : goal.loop-to-preserved
loop-to-preserved g c =
    let plain = uncounted_state _ _ c.loop-to.s (sym c.counts.ensures ∙ c.if-counts.false) in
    ((run_more _ _ _ _ _ _ c.requires.1 c.loop-to.invariant.0 c.turn-turned.result (c.turn-turned.ensures c.loop-to.s.braces) _ c.in-Listed.is (entry_next _ _ g.met.P.Part.wide _ _) _ c.store.ensures _ c.given-passed.ensures _ plain).1, c.loop-to.invariant.1, c.store.auto.entries ∙ c.loop-to.invariant.2)

-- ---- the run is over
pub shape_of-literals-in-Over : goal.shape_of-literals-in-Over
shape_of-literals-in-Over g c =
    search (rules, lent g (goal.at.shape_of-literals-in-Over g c).At-loop-to)

pub returns-in-Over : goal.returns-in-Over
returns-in-Over g c =
    let part = g.P.Part in
    let laws = g.met.P.Part in
    let at = (goal.at.returns-in-Over g c).At-loop-to in
    let begin = c.args in
    done _ _ _ _ _ _ _ _ (mul-zero part.WIDTH) (sym (lent g at)) (entries_fit _ _ laws.wide _ _ _ (room g at))
    (run_over _ _ _ _ _ _ c.requires.1 c.loop-to.invariant.0 c.turn-turned.result (c.turn-turned.ensures c.loop-to.s.braces) _ c.in-Over.is)
    ∙ ap (λ (b : Bounds). holds part.laid (cut_run b 0 0 (script_of document01 begin.script.now begin.book.now)) begin.literals.now (part.numbers begin.entries.now)) c.loop-to.invariant.1
