-- Where a scan stands, against the whole reading: what is left to read is answered as the whole, and the bytes that are left make the memory that the whole body makes.
use Rattle.std.specs.Prelude.{ℕ, ◌+◌, ◌≤◌, ◌<◌, List, ◌≡◌, length}
use Rattle.std.proofs.lemmas.List.Edits.{sets}
use Rattle.basis.specs.Types.{Bytes, Code, Text}
use Rattle.position.specs.declared.Position.{Position}
use Rattle.white.specs.White.{is_white}
use Rattle.chars.specs.declared.cursor.Cursor.{Cursor}
use Rattle.literal.specs.Trace.{bytes}
use Rattle.literal.specs.Cut.{cut}
use Rattle.literal.specs.Answers.{full}
use Rattle.string_turn.specs.declared.take.Scanning.{Scanning}
use Rattle.string.specs.Reading.{string_reading, rest}
use Rattle.string.specs.declared.scan.ScanStand.{ScanStand}

-- under a limit and in a room, with n bytes so far
pub record Measured (t : List ℕ) (from : Cursor) (q limit room at : ℕ) (s : Scanning) (n : ℕ) : Type 0 where
  pub within : n ≤ room
  pub is : cut (full from) limit room 0 (string_reading is_white t q from) ≡ cut (full from) limit room n (rest t q from.place at s)

-- in memory that was old and is now out, where the body has room
pub record WrittenSoFar (t : List ℕ) (q : ℕ) (from : Cursor) (old out : List ℕ) (at : ℕ) (s : Scanning) (n : ℕ) : Type 0 where
  pub same : length out ≡ length old
  pub count : n + length (bytes (rest t q from.place at s)) ≡ length (bytes (string_reading is_white t q from))
  pub is : length (bytes (string_reading is_white t q from)) ≤ length old → sets old 0 (bytes (string_reading is_white t q from)) ≡ sets out n (bytes (rest t q from.place at s))

-- a scan of a literal that starts at a place, and stands so before, stands so behind, further on, in memory as long as it was
pub record ScanLeads (t : List ℕ) (q : ℕ) (start : Position) (limit room : ℕ) (from : ScanStand) (out : List ℕ) (to : ScanStand) (now : List ℕ) : Type 0 where
  pub measured : (c : Cursor) → c.place ≡ start → Measured t c q limit room from.at from.state from.n → Measured t c q limit room to.at to.state to.n
  pub written : (c : Cursor) → c.place ≡ start → (old : List ℕ) → WrittenSoFar t q c old out from.at from.state from.n → WrittenSoFar t q c old now to.at to.state to.n
  pub low : from.at ≤ to.at
  pub high : from.at < to.at → to.at ≤ length t
  pub within : to.n ≤ room
  pub same : length now ≡ length out

-- wherever the literal starts
abbrev pub ScanLeadsAnywhere : Text → Code → ℕ → ℕ → ScanStand → Bytes → ScanStand → List ℕ → Type 0
ScanLeadsAnywhere t q limit room from out to now = (start : Position) → ScanLeads t q start limit room from out to now
