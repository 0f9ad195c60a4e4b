-- What a run's ending tells, in document 01's numbers and values.
use Rattle.lex_error.specs.Numbers.{number_of}
use Rattle.std.specs.Prelude.{ℕ, Err, Ok}
use Rattle.position.specs.declared.Position.{Position}
use Rattle.fault.specs.declared.Part.{Part}
use Rattle.fault.specs.Faults.{part}
use Rattle.reading.specs.Endings.{Ending}

-- the stop's number; 0 for the script's end
unfoldable pub ending_number : Ending → ℕ
ending_number (Ok p) = 0
ending_number (Err f) = number_of f.error

-- the place that comes with it
unfoldable pub ending_place : Ending → Position
ending_place (Ok p) = p
ending_place (Err f) = f.place

-- the part of the script that it is about; none at the script's end
unfoldable pub ending_part : Ending → Part
ending_part (Ok p) = part 0 0
ending_part (Err f) = f.part
