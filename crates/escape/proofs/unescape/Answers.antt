-- Each return is a law of proofs/Ways.antt on the whole.
use Rattle.escape.proofs.Ways.{escapes_letter, escapes_other, escapes_number}
use Rattle.escape.proofs.unescape.Goals as goal

pub returns-then-n-eq0 : goal.returns-then-n-eq0
returns-then-n-eq0 c = search escapes_other

pub returns-then-letter-eq-NOTHING : goal.returns-then-letter-eq-NOTHING
returns-then-letter-eq-NOTHING c = search escapes_number

pub returns : goal.returns
returns c = search escapes_letter
