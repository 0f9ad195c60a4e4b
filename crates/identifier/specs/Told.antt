-- Document 01's number and values for each case of an identifier's scan.
use Rattle.entry.specs.Kinds.{kind_number}
use Rattle.lex_error.specs.Numbers.{number_of}
use Rattle.std.specs.Prelude.{ℕ, Err, Ok}
use Rattle.position.specs.Place.{none}
use Rattle.position.specs.declared.Position.{Position}
use Rattle.fault.specs.Faults.{part}
use Rattle.fault.specs.declared.Part.{Part}
use Rattle.chars.specs.declared.cursor.Cursor.{Cursor}
use Rattle.identifier.specs.Answer.{Identified}

-- what a scan tells: the refusal's number, 0 for none, the place and the part reported with it; the kind and the token of the word; the offset and position reached
pub record Told : Type 0 where
  pub number : ℕ
  pub place : Position
  pub about : Part
  pub kind : ℕ
  pub token : ℕ
  pub cursor : Cursor

-- the values of each case; a refusal has no kind and no token
unfoldable pub told : Identified → Told
told (Ok w) = record { number = 0; place = none; about = part 0 0; kind = kind_number w.kind; token = w.token; cursor = w.cursor }
told (Err (f, c)) = record { number = number_of f.error; place = f.place; about = f.part; kind = 0; token = 0; cursor = c }
