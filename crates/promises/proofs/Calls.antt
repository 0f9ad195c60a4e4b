-- Demand 2, carried to the functions. A call's `Learnt` is what the function's contract in src/lib.rt says of what was lent, what was answered and what is held then. Assumes nothing.
use Prim.Native.Nat.{ℕ, ◌+◌}
use mathlib.Core.List.{List, ◌++◌}
use mathlib.Core.Path.{◌≡◌}
use lib.ListN.{length}
use contract.Lifetimes.{Lfts}
use denote.MutBor.{MutBor}
use denote.Ref.{Bor}
use Rattle.position.specs.declared.Position.{Position}
use Rattle.lent.specs.Answer.{Written}
use Rattle.literal.specs.Scans.{Scanned}
use Rattle.raw.proofs.parse_raw_string_literal.Reads as scan
use Rattle.raw_writer.proofs.raw_write.Reads as write
use Rattle.raw_writer.specs.Writer.{raw_literal_of}
use Rattle.promises.specs.RoundTrip.{Utf8, Admits, Valid, Within, HasRoom, made, ComesBack}
use Rattle.promises.proofs.RoundTrip.{round_trip}

-- `raw_write` was lent a body and a buffer and answered w; then `parse_raw_string_literal` was lent a text with what was made in it, an offset, a place, a limit and another buffer, and answered r
module _
    (κs ιs : Lfts 2)
    (body body' text text' : Bor (List ℕ))
    (lent lent' buffer buffer' : MutBor (List ℕ))
    (w : Written)
    (at at' limit limit' : ℕ)
    (start start' : Position)
    (r : Scanned)
    (writes : write.Learnt κs (body, (lent, tt)) w (body', (lent', tt)))
    (scans : scan.Learnt ιs (text, (at, (start, (limit, (buffer, tt))))) r (text', (at', (start', (limit', (buffer', tt)))))) where
  pub calls_come_back : (before after : List ℕ) → text.now ≡ before ++ made w lent'.now ++ after → at ≡ length before + 1
      → Utf8 body.now → Valid start → Admits (before ++ raw_literal_of body.now ++ after) → HasRoom (raw_literal_of body.now) lent.now → Within limit body.now → HasRoom body.now buffer.now
      → ComesBack body.now before start buffer.now w r buffer'.now
  calls_come_back before after e q formed valid admitted room within space =
      let b = round_trip body.now before after lent.now buffer.now start limit formed valid admitted room within space in
      rw (scans.1, scans.0, e, q, writes.1, writes.0) b
