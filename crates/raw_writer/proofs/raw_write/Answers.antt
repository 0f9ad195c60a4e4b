-- A refused body is refused; any other is measured, and written if there is room.
use Prim.Native.Nat.{◌≤◌}
use native.Mathlib.Omega.{arith}
use mathlib.Core.Path.{sym, ◌∙◌}
use lib.ListN.{length}
use Rattle.std.proofs.lemmas.Result.{err_from_is_err_and}
use Rattle.raw_writer.proofs.Hashes.{hashes_short}
use Rattle.raw_writer.proofs.Writes.{is_short, refused, untouched, no_room, left_alone, has_room, done, written}
use Rattle.raw_writer.proofs.raw_write.Goals as goal
use Rattle.raw_writer.proofs.raw_write.Goals.{After-hashes_for-hashes}

-- a body that was measured
module _ (m : After-hashes_for-hashes) where
  -- is short enough, and so are its hashes few enough, to add their lengths
  small : (length m.args.body.now ≤ 16777216) × (m.hashes_for-hashes.result ≤ 16777217)
  small =
      let short : length m.args.body.now ≤ 16777216 = is_short _ (sym m.text.ensures ∙ m.in_ok-text.was) in
      (short, rw m.hashes_for-hashes.ensures (omega (arith, hashes_short m.args.body.now)))

pub returns-in_err-text : goal.returns-in_err-text
returns-in_err-text c =
    let p = err_from_is_err_and c.from_residual.result c.from_residual.ensures.1 in
    let q = sym c.text.ensures ∙ c.in_err-text.was in
    record { value = rw (p.1, p.2) (refused _ _ q); out_after = untouched _ _ q }

pub hashes_for-hashes-requires : goal.hashes_for-hashes-requires
hashes_for-hashes-requires c = is_short _ (sym c.text.ensures ∙ c.in_ok-text.was)

pub overflow_mul-len : goal.overflow_mul-len
overflow_mul-len c = omega (arith, (small c).0, (small c).1)

pub overflow_add-len : goal.overflow_add-len
overflow_add-len c = omega (arith, (small c).0, (small c).1)

pub overflow_add-len-2 : goal.overflow_add-len-2
overflow_add-len-2 c = omega (arith, (small c).0, (small c).1)

pub returns-then-out-len : goal.returns-then-out-len
returns-then-out-len c = record { value = no_room _ _ (sym c.text.ensures ∙ c.in_ok-text.was) c.hashes_for-hashes.ensures c.if-out-len.true; out_after = left_alone _ _ (sym c.text.ensures ∙ c.in_ok-text.was) c.hashes_for-hashes.ensures c.if-out-len.true }

pub write-requires : goal.write-requires
write-requires c = (
  c.hashes_for-hashes.ensures,
  has_room _ c.args.out.now (sym c.text.ensures ∙ c.in_ok-text.was) c.hashes_for-hashes.ensures c.if-out-len.false,
)

pub returns : goal.returns
returns c = record { value = done _ _ (sym c.text.ensures ∙ c.in_ok-text.was) c.hashes_for-hashes.ensures c.if-out-len.false; out_after = written _ _ (sym c.text.ensures ∙ c.in_ok-text.was) c.hashes_for-hashes.ensures c.if-out-len.false c.write.ensures }
