-- A turn under a limit, as the measuring loop makes it: what its answer tells of the reading.
use Rattle.std.specs.declared.ops.ControlFlow.TheVariants.{Break, Continue}
use Rattle.std.specs.Prelude.{ℕ, ◌≤◌, ◌<◌, List, ◌++◌, ◌≡◌, length}
use Rattle.basis.specs.Types.{Code, Offset, Text}
use Rattle.position.specs.declared.Position.{Position}
use Rattle.utf8.specs.Encode.{encoded}
use Rattle.literal.specs.Trace.{Trace, adds, bytes}
use Rattle.literal.specs.Cut.{cut}
use Rattle.literal.specs.declared.Refusal.{Refusal}
use Rattle.literal.specs.Scans.{Scanned}
use Rattle.string_turn.specs.declared.take.Scanning.{Scanning}
use Rattle.string.specs.Reading.{rest}
use Rattle.string.specs.Answer.{LimitedTurn}

-- under a limit, with n bytes so far, a reading is answered so, whatever the room
pub record LimitAnswers (limit n : ℕ) (x : Trace) (r : Scanned) : Type 0 where
  pub is : (full : Refusal) (room : ℕ) → cut full limit room n x ≡ r

-- it goes on: within the limit it adds the bytes of a character and no others, and the rest follows further on
pub record GoesOn (limit n : ℕ) (t : List ℕ) (q : ℕ) (start : Position) (at : ℕ) (s : Scanning) (d next : ℕ) (r : Scanning) : Type 0 where
  pub is : (full : Refusal) (room : ℕ) → n ≤ room → cut full limit room n (rest t q start at s) ≡ cut full limit room n (adds (encoded d) (rest t q start next r))
  pub body : bytes (rest t q start at s) ≡ encoded d ++ bytes (rest t q start next r)
  pub low : at < next
  pub high : next ≤ length t

-- a turn's answer
abbrev pub Tells : ℕ → ℕ → Text → Code → Position → Offset → Scanning → LimitedTurn → Type 0
Tells limit n t q start at s (Continue (d, next, r)) = GoesOn limit n t q start at s d next r
Tells limit n t q start at s (Break a) = LimitAnswers limit n (rest t q start at s) a
