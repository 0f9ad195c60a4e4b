-- What a scan leaves in the memory that takes the body.
use Rattle.std.specs.Prelude.{ℕ, ◌≤◌, List, ◌≡◌, length, Err, Ok}
use Rattle.basis.specs.Store.{over}
use Rattle.literal.specs.Trace.{Trace, bytes}
use Rattle.literal.specs.Scans.{Scanned}

-- an accepted body that has room stands whole in front of the old rest; of any other nothing is said, since nobody reads it
abbrev pub BodyKept : Scanned → Trace → List ℕ → List ℕ → Type 0
BodyKept (Ok (e, n)) x old now = length (bytes x) ≤ length old → now ≡ over (bytes x) old
BodyKept (Err f) x old now = Unit {0}
