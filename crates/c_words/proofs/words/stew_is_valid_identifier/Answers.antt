-- It is what the call answers.
use Rattle.c_words.proofs.words.stew_is_valid_identifier.Goals as goal

pub returns : goal.returns
returns c = c.is_valid_identifier.ensures
