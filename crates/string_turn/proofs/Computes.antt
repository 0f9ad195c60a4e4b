-- What a turn of a string literal is computed with: sets of definitions, each under one name. Assumes nothing.
use Rattle.white.specs.White.{is_white}
use Rattle.string_turn.specs.Kinds.{is_verbatim, is_continued, is_interpolated}
use Rattle.string_turn.specs.Endings.{unterminated_at, malformed_at}
use Rattle.string_turn.specs.Take.{next_is, input_end, dollar_of, take_of}
use Rattle.string_turn.specs.Act.{close_of, line_feed_of, escape_of, add_of, plain_of, other_of, match_of, act_of}

-- a character is taken
unfoldable pub the_takes : Unit {0}
unfolding is_verbatim is_continued is_interpolated unterminated_at malformed_at next_is input_end dollar_of take_of
the_takes = tt

-- and acted on
unfoldable pub the_acts : Unit {0}
unfolding is_white close_of line_feed_of escape_of add_of plain_of other_of match_of act_of
the_acts = tt
