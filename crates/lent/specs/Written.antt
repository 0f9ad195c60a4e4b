-- A text written at the front of lent memory: what is answered, and what the memory holds then. Document 01, "A refused scan or write leaves its buffer untouched".
use Rattle.std.specs.Prelude.{ℕ, ltb, length, Err, Ok}
use Rattle.basis.specs.Types.{Text, Bytes}
use Rattle.basis.specs.Pick.{pick}
use Rattle.basis.specs.Store.{over}
use Rattle.lex_error.specs.declared.LexError.TheVariants.{NoLiteralRoom}
use Rattle.lex_error.specs.Numbers.{told_number}
use Rattle.lent.specs.Answer.{Written}

-- document 01's number of an answer; 0 where the text was written
abbrev pub written_number : Written → ℕ
written_number w = told_number w

-- the text's length, or 9 where the memory is shorter than the text
unfoldable pub written_of : Text → Bytes → Written
written_of text memory = pick (ltb (length memory) (length text)) (Err NoLiteralRoom) (Ok (length text))

-- the text and the old rest, or the memory as it was
unfoldable pub left_of : Text → Bytes → Bytes
left_of text memory = pick (ltb (length memory) (length text)) memory (over text memory)
