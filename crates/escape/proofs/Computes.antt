-- What an escape is computed with: a set of definitions under one name. Assumes nothing.
use Rattle.classes.specs.Class.{digit_of}
use Rattle.escape.specs.Escapes.{letter_of, digits_after, digits_from, scalar_of, escaped_of}

unfoldable pub the_escapes : Unit {0}
unfolding digit_of letter_of digits_after digits_from scalar_of escaped_of
the_escapes = tt
