-- Four bytes tell the length of every literal that is written. Assumes nothing.
use Rattle.std.specs.Prelude.{Err, Ok}
use Prim.Native.Nat.{ℕ, ◌^◌, ◌<◌}
use native.Mathlib.Omega.{arith}
use mathlib.Core.List.{List}
use mathlib.Core.Path.{◌≡◌, refl}
use Rattle.lent.specs.Answer.{Written}
use Rattle.numbers.specs.Spell.{spell, value}
use Rattle.numbers.proofs.Whole.{spell_tells}
use Rattle.raw_writer.specs.Writer.{raw_write_of}
use Rattle.raw_writer.proofs.Writes.{written_short}
use Rattle.stew.specs.WriteAnswer.{written_length}

length_small : (body out : List ℕ) (w : Written) → raw_write_of body out ≡ w → written_length w < 256 ^ 4
length_small body out (Ok n) e = let h = written_short body out e in omega arith
length_small body out (Err n) e = omega arith

pub length_told : (body out : List ℕ) → value (spell 4 (written_length (raw_write_of body out))) ≡ written_length (raw_write_of body out)
length_told body out = spell_tells 4 (written_length (raw_write_of body out)) (length_small body out (raw_write_of body out) refl)
