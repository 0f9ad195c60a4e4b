-- What a raw literal is computed with: sets of definitions, each under one name. Assumes nothing.
use Rattle.door.specs.Door.{text_of, door_of}
use Rattle.raw.specs.Opening.{cut_off, opening_turn, opened_of}
use Rattle.raw.specs.Raw.{held_back, placed, at_end, body_turn, body_of, read_of}
use Rattle.raw.specs.Entries.{raw_trace, enters_of, resumes_of, parse_trace, parse_of, resume_trace, resume_of}

-- the reading
unfoldable pub the_raw_rules : Unit {0}
unfolding cut_off opening_turn opened_of held_back placed at_end body_turn body_of read_of
the_raw_rules = tt

-- the entries
unfoldable pub the_raw_entries : Unit {0}
unfolding text_of door_of raw_trace enters_of resumes_of parse_trace parse_of resume_trace resume_of
the_raw_entries = tt
