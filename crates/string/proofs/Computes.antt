-- What a string literal is computed with: sets of definitions, each under one name. Assumes nothing.
use Rattle.door.specs.Door.{text_of, door_of}
use Rattle.string.specs.Ends.{last_of}
use Rattle.string.specs.Reading.{string_turn, string_rule, string_begun, string_reading}
use Rattle.string.specs.Entry.{start_refuses, argument_refuses, string_trace, scan_of}

-- the reading
unfoldable pub the_string_rules : Unit {0}
unfolding last_of string_turn string_rule string_begun string_reading
the_string_rules = tt

-- the entry
unfoldable pub the_string_entry : Unit {0}
unfolding text_of door_of start_refuses argument_refuses string_trace scan_of
the_string_entry = tt
