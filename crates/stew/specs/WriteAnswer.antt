-- The raw writer through C: what `stew_raw_write` returns, and what the two slices lent to it hold then.
use Rattle.lex_error.specs.Numbers.{on_asked, number_of}
use Rattle.std.specs.Prelude.{ℕ, Bool, List, eqb, ltb, length, Err, Ok}
use Rattle.basis.specs.Types.{Bytes}
use Rattle.basis.specs.Pick.{pick}
use Rattle.basis.specs.Store.{over}
use Rattle.lent.specs.Written.{written_number}
use Rattle.lent.specs.Answer.{Written}
use Rattle.numbers.specs.Spell.{spell}
use Rattle.raw_writer.specs.Writer.{raw_write_of, raw_left_of}
use Rattle.door.specs.Door.{text_of}

-- the literal's length; 0 where the write was refused
abbrev pub written_length : Written → ℕ
written_length (Ok n) = n
written_length (Err n) = 0

-- an answer of less than four bytes
unfoldable pub write_too_short : List ℕ → Bool
write_too_short answer = ltb (length answer) 4

-- the number for too short an answer: 2 or 1 where the body gives one, else 9
unfoldable pub short_write_number : Bytes → ℕ
short_write_number body = on_asked (text_of body) 9 number_of

-- what is returned: 0, or the refusal's number
unfoldable pub write_returned : Bytes → Bytes → List ℕ → ℕ
write_returned body out answer = pick (write_too_short answer) (short_write_number body) (written_number (raw_write_of body out))

-- what the buffer holds then; for too short an answer, what it held
unfoldable pub out_of : Bytes → Bytes → List ℕ → List ℕ
out_of body out answer = pick (write_too_short answer) out (raw_left_of body out)

-- what the answer holds then: the length in four bytes, the lowest first, and the old rest; where it is too short, what it held
unfoldable pub write_answer : Bytes → Bytes → List ℕ → List ℕ
write_answer body out answer = pick (write_too_short answer) answer (over (spell 4 (written_length (raw_write_of body out))) answer)
