-- What a limit and a room leave of a reading: document 01, "The bytes one step adds count together: if they pass the buffer's end, 9 comes at once; 7 comes where the Rust checks".
use Rattle.std.specs.Prelude.{ℕ, ◌+◌, leb, length, Err, Ok}
use Rattle.basis.specs.Types.{Bytes}
use Rattle.basis.specs.Pick.{pick}
use Rattle.basis.specs.Store.{over}
use Rattle.literal.specs.Trace.{Trace, ends, fails, adds, checks, bytes, passes, Outcome, good, bad}
use Rattle.literal.specs.declared.Refusal.{Refusal}
use Rattle.literal.specs.Scans.{Scanned, accepted_as}

-- the answer, where n bytes were added before; `full` is the refusal for want of room
unfoldable pub cut : Refusal → ℕ → ℕ → ℕ → Trace → Scanned
cut full limit room n (ends e) = accepted_as e n
cut full limit room n (fails f) = Err f
cut full limit room n (adds bs t) = pick (leb (n + length bs) room) (cut full limit room (n + length bs) t) (Err full)
cut full limit room n (checks f t) = pick (passes limit n) (Err f) (cut full limit room n t)

-- the lent memory then: the body and the old rest where the scan was accepted, untouched where it was refused
unfoldable pub wrote : Scanned → Trace → Bytes → Bytes
wrote (Ok (e, n)) t memory = over (bytes t) memory
wrote (Err f) t memory = memory

-- the answer that an ending is, with a body of n bytes
unfoldable pub answer : ℕ → Outcome → Scanned
answer n (good e) = accepted_as e n
answer n (bad f) = Err f
