-- The body is stored in the part of the memory that is not used: a part of the text, what stands aside, or what the scan leaves.
use Prim.Native.Nat.{ℕ, ◌+◌, ◌-◌, ◌≤◌}
use native.Mathlib.Omega.{arith}
use mathlib.Core.List.{List}
use mathlib.Core.Path.{◌≡◌, ap, ◌∙◌}
use lib.ListN.{length, take, drop, length-take}
use Rattle.basis.specs.Store.{over}
use Rattle.literal.specs.Answers.{full}
use Rattle.literal.specs.Trace.{Trace, bytes}
use Rattle.literal.proofs.Limits.{accepted_whole}
use Rattle.white.specs.White.{is_white}
use Rattle.string.specs.Reading.{string_reading}
use Rattle.string.proofs.scan.Keeps.{accepted_kept}
use Rattle.script.specs.Rules.{document01}
use Rattle.script.specs.Steps.{literal_trace}
use Rattle.turn.proofs.Literals.{in_room_lem, raw_trace_lem, string_trace_lem, string_cut, part_room, part_stored, part_over, aside_room, aside_stored}
use Rattle.turn.proofs.write.Goals as goal
use Rattle.turn.proofs.write.Goals.{Start, Then-len-le-ASIDE}

-- the body that is written
module _ (k : Start) where
  abbrev text : List ℕ
  text = k.args.text.now

  abbrev literals : List ℕ
  literals = k.args.literals.now

  abbrev used : ℕ
  used = k.args.room.used

  abbrev trace : Trace
  trace = literal_trace document01 text k.args.read.opener k.args.read.from

  abbrev body : List ℕ
  body = bytes trace

  sized : (k.args.read.len ≡ length body) × (used + length body ≤ length literals)
  sized =
      let w = accepted_whole (full k.args.read.from) k.args.room.bounds.limit (k.args.room.bounds.literals - used) trace k.args.read.end k.args.read.len k.requires.accepted in
      (w.0, omega (arith, w.0, w.1, k.requires.used, k.requires.lent))

  room : length body ≤ length (take (length literals - used) (drop used literals))
  room = part_room literals used body sized.1

-- one that stands aside
module _ (c : Then-len-le-ASIDE) where
  stands : c.args.aside.now ≡ over (bytes (literal_trace document01 c.args.text.now c.args.read.opener c.args.read.from)) c.args.aside.now
  stands =
      let w = accepted_whole (full c.args.read.from) c.args.room.bounds.limit (c.args.room.bounds.literals - c.args.room.used) (literal_trace document01 c.args.text.now c.args.read.opener c.args.read.from) c.args.read.end c.args.read.len c.requires.accepted in
      c.requires.kept c.if-read-eq-HASH.false (omega (arith, c.if-len-le-ASIDE.true, w.0))

pub write-requires : goal.write-requires
write-requires c =
    let is = raw_trace_lem document01 c.args.text.now c.args.read.opener c.args.read.from c.if-read-eq-HASH.true in
    (c.requires.inside, (sized (goal.at.write-requires c).Start).0 ∙ ap (λ (x : Trace). length (bytes x)) is, omega (arith, (sized (goal.at.write-requires c).Start).0, room (goal.at.write-requires c).Start))

pub returns-then-read-eq-HASH : goal.returns-then-read-eq-HASH
returns-then-read-eq-HASH c =
    rw (c.write.ensures, ← raw_trace_lem document01 c.args.text.now c.args.read.opener c.args.read.from c.if-read-eq-HASH.true) (part_stored _ _ (bytes (literal_trace document01 c.args.text.now c.args.read.opener c.args.read.from)) (sized (goal.at.returns-then-read-eq-HASH c).Start).1)

pub slice_bounds-copy-end : goal.slice_bounds-copy-end
slice_bounds-copy-end c = rw (length-take c.args.read.len c.args.aside.now) (omega (arith, (sized (goal.at.slice_bounds-copy-end c).Start).0, aside_room (bytes (literal_trace document01 c.args.text.now c.args.read.opener c.args.read.from)) c.args.aside.now (stands c)))

pub returns-then-len-le-ASIDE : goal.returns-then-len-le-ASIDE
returns-then-len-le-ASIDE c =
    aside_stored (bytes (literal_trace document01 c.args.text.now c.args.read.opener c.args.read.from)) c.args.aside.now (stands (goal.at.returns-then-len-le-ASIDE c).Then-len-le-ASIDE) c.args.literals.now c.args.room.used c.args.read.len (sized (goal.at.returns-then-len-le-ASIDE c).Start).0 (sized (goal.at.returns-then-len-le-ASIDE c).Start).1 c.copy.ensures.out_after

-- one that is scanned once more
pub returns-else-len-le-ASIDE : goal.returns-else-len-le-ASIDE
returns-else-len-le-ASIDE c =
    let n = c.if-read-eq-HASH.false in
    let is = string_trace_lem document01 c.args.text.now c.args.read.opener c.args.read.from n in
    let x = string_reading is_white c.args.text.now c.args.read.opener.terminator c.args.read.from in
    let old = take (length c.args.literals.now - c.args.room.used) (drop c.args.room.used c.args.literals.now) in
    let fits : length (bytes x) ≤ length old = rw (← is) (room (goal.at.returns-else-len-le-ASIDE c).Start) in
    let yes = c.scan.ensures.value ∙ string_cut document01 c.args.text.now c.args.read.opener c.args.read.from n _ _ ∙ in_room_lem c.args.room.bounds c.args.room.used (length c.args.literals.now) c.args.read.from (literal_trace document01 c.args.text.now c.args.read.opener c.args.read.from) c.requires.lent ∙ c.requires.accepted in
    rw (accepted_kept x old yes c.scan.ensures.body_kept fits, ← is) (part_over _ _ (bytes (literal_trace document01 c.args.text.now c.args.read.opener c.args.read.from)) (sized (goal.at.returns-else-len-le-ASIDE c).Start).1)
