-- What a reading is computed with below the scanners: sets of definitions, each under one name. `unfolding the_places` unfolds all that its own line names. Assumes nothing.
use Rattle.basis.specs.Words.{word}
use Rattle.position.specs.Place.{none, is_none, given, up, advanced, advanced_by, lined, rewound, or_else, on_line, begins_line, column_number}
use Rattle.utf8.specs.Table.{look, look_at, chars_from, chars, chars_at, well_from, well, edge}
use Rattle.utf8.specs.Encode.{is_scalar, encode, encoded}
use Rattle.chars.specs.Cursors.{get_next_of, eat_next_of}
use Rattle.chars.specs.Scan.{run, run_at}
use Rattle.literal.specs.Trace.{yields, bytes, final, passes}
use Rattle.literal.specs.Cut.{cut}

unfoldable pub the_places : Unit {0}
unfolding none is_none given up advanced advanced_by lined rewound or_else on_line begins_line column_number
the_places = tt

unfoldable pub the_characters : Unit {0}
unfolding word look look_at chars_from chars chars_at well_from well edge is_scalar encode encoded
the_characters = tt

unfoldable pub the_readings : Unit {0}
unfolding get_next_of eat_next_of run run_at yields bytes final passes cut
the_readings = tt
