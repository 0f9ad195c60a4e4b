-- Worked examples of the row: `"a"b"#` after its first hash from 1:1, and `a` there, which is 5. Assumes nothing.
use Rattle.literal.specs.Scans.{accepted_as}
use Rattle.std.specs.Prelude.{Err}
use mathlib.Core.Bool.{false}
use mathlib.Core.List.{[], ◌∷◌}
use mathlib.Core.Path.{◌≡◌, refl}
use Rattle.position.specs.Place.{none, given, line_number, column_number}
use Rattle.chars.specs.Cursors.{cursor}
use Rattle.fault.specs.Faults.{part, unexpected_input}
use Rattle.literal.specs.Told.{told}
use Rattle.c_answer.specs.Packed.{packed}
use Rattle.c_scanners.specs.LiteralRow.{literal_row}

pub record Worked : Type 0 where
  pub accepted : literal_row (accepted_as (record { cursor = cursor 6 (given 1 7); first = given 1 3; on_record = record { c = 0; times = 0 }; interpolated = false }) 3)
      ≡ 0 ∷ 6 ∷ 65543 ∷ 65539 ∷ 0 ∷ 0 ∷ 3 ∷ 0 ∷ 0 ∷ 0 ∷ 0 ∷ []
  pub refused : literal_row (Err (record { fault = unexpected_input (given 1 1) (part 0 1); cursor = cursor 1 (given 1 1); on_record = record { c = 0; times = 0 } }))
      ≡ 5 ∷ 1 ∷ 65537 ∷ 0 ∷ 0 ∷ 0 ∷ 0 ∷ 0 ∷ 65537 ∷ 0 ∷ 1 ∷ []

pub worked : Worked
unfolding none given line_number column_number packed told literal_row
worked = record { accepted = refl; refused = refl }
