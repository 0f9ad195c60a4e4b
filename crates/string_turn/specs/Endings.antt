-- How a string literal's own rules refuse: document 01, "4 clears the record; 6 and 7 keep it".
use Rattle.std.specs.Prelude.{ℕ, ◌-◌}
use Rattle.basis.specs.Types.{Code}
use Rattle.position.specs.declared.Position.{Position}
use Rattle.fault.specs.Faults.{part, unterminated_string, malformed_escape_sequence}
use Rattle.chars.specs.declared.cursor.Cursor.{Cursor}
use Rattle.literal.specs.Answers.{nothing, once, refusal}
use Rattle.literal.specs.declared.Refusal.{Refusal}

-- 4
unfoldable pub unterminated_at : Position → Cursor → Refusal
unterminated_at start here = refusal (unterminated_string start) here nothing

-- 6, of the part from the backslash to the cursor
unfoldable pub malformed_at : Code → ℕ → Cursor → Refusal
malformed_at q from here = refusal (malformed_escape_sequence here.place (part from (here.at - from))) here (once q)
