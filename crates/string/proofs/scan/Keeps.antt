-- What a scan has kept, for its callers. Assumes nothing.
use Prim.Native.Nat.{ℕ, ◌≤◌}
use mathlib.Core.List.{List}
use mathlib.Core.Path.{◌≡◌}
use lib.ListN.{length}
use Rattle.basis.specs.Store.{over}
use Rattle.literal.specs.Trace.{Trace, bytes}
use Rattle.literal.specs.declared.End.{End}
use Rattle.literal.specs.Scans.{Scanned, accepted_as}
use Rattle.string.specs.Kept.{BodyKept}

-- an accepted body that has room
pub accepted_kept : {r : Scanned} {e : End} {n : ℕ} (x : Trace) (old : List ℕ) {now : List ℕ} → r ≡ accepted_as e n → BodyKept r x old now → length (bytes x) ≤ length old → now ≡ over (bytes x) old
accepted_kept x old e k h = (rw e at k) h
