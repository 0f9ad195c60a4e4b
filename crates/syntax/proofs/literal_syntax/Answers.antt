-- What is written is the text that the token is written as.
use native.Mathlib.Omega.{arith}
use Rattle.syntax.proofs.Texts.{syntax_is}
use Rattle.syntax.proofs.literal_syntax.Goals as goal

pub returns-clause-value : goal.returns-clause-value
returns-clause-value c =
    rw (← syntax_is _ _ _ c.written_as.ensures (omega arith) c.spelt-spelt.ensures, ← c.to_be_bytes-bytes.ensures) c.write.ensures.value

pub returns-clause-out_after : goal.returns-clause-out_after
returns-clause-out_after c =
    rw (← syntax_is _ _ _ c.written_as.ensures (omega arith) c.spelt-spelt.ensures, ← c.to_be_bytes-bytes.ensures) c.write.ensures.out_after
