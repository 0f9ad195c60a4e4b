-- Each arm of the match is a law of proofs/Ways.antt on the letters.
use Rattle.escape.proofs.Ways.{letter_r, letter_n, letter_backslash, letter_t, no_letter}
use Rattle.escape.proofs.letter_of.Goals as goal

pub returns-in-114 : goal.returns-in-114
returns-in-114 c = search letter_r

pub returns-in-110 : goal.returns-in-110
returns-in-110 c = search letter_n

pub returns-in-92 : goal.returns-in-92
returns-in-92 c = search letter_backslash

pub returns-in-116 : goal.returns-in-116
returns-in-116 c = search letter_t

pub returns-in_default : goal.returns-in_default
returns-in_default c = search no_letter
