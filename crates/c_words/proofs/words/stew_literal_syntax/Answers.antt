-- The text is written, and what that answers is told as a number.
use Rattle.c_words.proofs.words.stew_literal_syntax.Goals as goal

pub returns : goal.returns
returns c = record { value = rw (c.written_as_number.ensures, c.literal_syntax.ensures.value); out_after = c.literal_syntax.ensures.out_after }
