-- Each arm is the definition at its case.
use Rattle.c_words.specs.TokenNumbers.{lookup_as_number}
use Rattle.c_words.proofs.words.lookup_as_number.Goals as goal

pub returns-in-Some : goal.returns-in-Some
unfolding lookup_as_number
returns-in-Some c = rw c.in-Some.is

pub returns-in-None : goal.returns-in-None
unfolding lookup_as_number
returns-in-None c = rw c.in-None.is
