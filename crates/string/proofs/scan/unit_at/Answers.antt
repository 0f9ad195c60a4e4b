-- Nothing, or what each of them reads.
use native.Mathlib.Omega.{arith}
use mathlib.Core.Path.{refl}
use Rattle.std.proofs.lemmas.Option.{IfSome_then}
use Rattle.string.proofs.scan.Units.{terminates, ascii_at}
use Rattle.string.proofs.scan.unit_at.Goals as goal

pub doubled-requires : goal.doubled-requires
doubled-requires c =
    let q = terminates c.requires in
    (c.requires, ascii_at _ _ refl c.if-b-q.true q.some q.low)

pub returns-then-b-q : goal.returns-then-b-q
returns-then-b-q c = IfSome_then c.doubled.result c.doubled.ensures (λ u r. r c.args.start)

pub feed-requires : goal.feed-requires
feed-requires c = ascii_at _ _ refl c.in-13.is (omega arith) (omega arith)

pub returns-in-13 : goal.returns-in-13
returns-in-13 c = rw c.if-q-eq-BACKTICK.true (IfSome_then c.feed.result c.feed.ensures (λ u r. r c.args.start))

pub sign-requires : goal.sign-requires
sign-requires c = ascii_at _ _ refl c.in-92.is (omega arith) (omega arith)

pub returns-in-92 : goal.returns-in-92
returns-in-92 c = rw c.if-q-eq-BACKTICK-2.true (IfSome_then c.sign.result c.sign.ensures (λ u r. r c.args.start))

pub escaped-requires : goal.escaped-requires
escaped-requires c = (c.requires, c.if-q-eq-BACKTICK-2.false, ascii_at _ _ refl c.in-92.is (omega arith) (omega arith))

pub skipped-requires : goal.skipped-requires
skipped-requires c = (c.requires, c.if-q-ne-BACKTICK.true, ascii_at _ _ refl c.in-32.is (omega arith) (omega arith))

pub returns-in-32 : goal.returns-in-32
returns-in-32 c = IfSome_then c.skipped.result c.skipped.ensures (λ u r. r c.args.start)
