-- Document 01's number and values for each case of a scan's answer.
use Rattle.lex_error.specs.Numbers.{number_of}
use Rattle.std.specs.Prelude.{ℕ, Bool, false, Err, Ok}
use Rattle.position.specs.declared.Position.{Position}
use Rattle.position.specs.Place.{none}
use Rattle.fault.specs.declared.Part.{Part}
use Rattle.fault.specs.Faults.{part}
use Rattle.chars.specs.declared.cursor.Cursor.{Cursor}
use Rattle.literal.specs.declared.Terminator.{Terminator}
use Rattle.literal.specs.Scans.{Scanned}

-- what a scan tells: the refusal's number, 0 for none, the place and the part reported with it; the offset and position reached; the first place; what is on record; the body's length; whether `${` ended it
pub record Told : Type 0 where
  pub number : ℕ
  pub place : Position
  pub about : Part
  pub cursor : Cursor
  pub first : Position
  pub terminator : Terminator
  pub len : ℕ
  pub interpolated : Bool

-- the values of each case; a refusal's first place is NONE
unfoldable pub told : Scanned → Told
told (Ok (e, n)) =
    record {
      number = 0;
      place = none;
      about = part 0 0;
      cursor = e.cursor;
      first = e.first;
      terminator = e.on_record;
      len = n;
      interpolated = e.interpolated;
    }
told (Err f) =
    record {
      number = number_of f.fault.error;
      place = f.fault.place;
      about = f.fault.part;
      cursor = f.cursor;
      first = none;
      terminator = f.on_record;
      len = 0;
      interpolated = false;
    }

-- the number alone
unfoldable pub refusal_number : Scanned → ℕ
refusal_number (Ok (e, n)) = 0
refusal_number (Err f) = number_of f.fault.error
