-- Each case is one of proofs/encoder/Puts.antt: the encoding is written whole, it has no room, or the number is no scalar value.
use native.Mathlib.Omega.{arith}
use mathlib.Core.Path.{◌≡◌, sym, ◌∙◌}
use Rattle.basis.specs.Store.{stored, after}
use Rattle.utf8.specs.Encode.{encoded}
use Rattle.utf8.proofs.Encodes.{scalar_small}
use Rattle.utf8.proofs.encoder.Puts.{put_whole, put_none, put_other}
use Rattle.utf8.proofs.encoder.put.Goals as goal
use Rattle.utf8.proofs.encoder.put.Goals.{else-is_scalar-via-then-is_scalar+then-at-out+else-size-out, else-is_scalar-via-then-is_scalar+else-at-out, else-is_scalar-via-else-is_scalar}

pub write-requires : goal.write-requires
write-requires c = (scalar_small _ (sym c.is_scalar.ensures ∙ c.if-is_scalar.true), omega (arith, c.size.ensures))

pub returns-then-size-out : goal.returns-then-size-out
returns-then-size-out c =
    let p = put_whole c.args.out.now c.args.at c.args.c (sym c.is_scalar.ensures ∙ c.if-is_scalar.true) (omega (arith, c.size.ensures)) c.write.ensures.0 c.write.ensures.1 in
    record { value = p.0; out_after = p.1 }

pub returns-else-is_scalar : goal.returns-else-is_scalar
returns-else-is_scalar c =
    let p : (c.args.at ≡ after c.args.out.now c.args.at (encoded c.args.c)) × (c.args.out.now ≡ stored c.args.out.now c.args.at (encoded c.args.c)) = elim c.else-is_scalar.branch [
      | else-is_scalar-via-then-is_scalar+then-at-out+else-size-out w ↦
          put_none c.args.out.now c.args.at c.args.c (sym c.is_scalar.ensures ∙ w.if-is_scalar.true) (omega (arith, w.size.ensures))
      | else-is_scalar-via-then-is_scalar+else-at-out w ↦
          put_none c.args.out.now c.args.at c.args.c (sym c.is_scalar.ensures ∙ w.if-is_scalar.true) (omega arith)
      | else-is_scalar-via-else-is_scalar w ↦ put_other c.args.out.now c.args.at c.args.c (sym c.is_scalar.ensures ∙ w.if-is_scalar.false)
    ] in
    record { value = p.0; out_after = p.1 }
