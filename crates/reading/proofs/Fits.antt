-- What a run leaves is within its rooms. Assumes nothing.
use Prim.Native.Nat.{ℕ, ◌+◌, ◌-◌, ◌≤◌, ◌<◌}
use native.Mathlib.Omega.{arith}
use native.Mathlib.Nat.{add-zero}
use lib.Dec.{ltb}
use lib.ListN.{length, length-append}
use borrow.Author.Tests.{ltb-true}
use Rattle.basis.proofs.Cases.{pick_cases}
use Rattle.position.specs.declared.Position.{Position}
use Rattle.literal.specs.Trace.{bytes}
use Rattle.literal.proofs.Limits.{accepted_whole}
use Rattle.reading.specs.Reading.{Reading, finishes, halts, spoils, lists, reads, Kept, kept, kept_part, Left, entries, literal_bytes, nothing_more, more}
use Rattle.literal.specs.Answers.{full}
use Rattle.reading.specs.CutRun.{scanned, in_room, cut_run}
use Rattle.reading.specs.declared.Bounds.{Bounds}
use Rattle.reading.specs.Endings.{Ending}
use Rattle.reading.proofs.Limits.{on_scan_lem}

-- behind n entries and so many literal bytes
pub record Fits (b : Bounds) (n used : ℕ) (l : Left) : Type 0 where
  pub entries : n + length (entries l.tokens) ≤ b.entries
  pub literals : used + length (literal_bytes l.tokens) ≤ b.literals

module _ (b : Bounds) where
  ended_fits : (n used : ℕ) → n ≤ b.entries → used ≤ b.literals → (e : Ending) → Fits b n used (nothing_more e)
  unfolding entries literal_bytes
  ended_fits n used f g e = record { entries = omega arith; literals = omega arith }

  more_fits : (n used : ℕ) (k : Kept) (l : Left) → Fits b (n + 1) (used + length k.bytes) l → Fits b n used (more k l)
  unfolding entries literal_bytes
  more_fits n used k l f = record { entries = omega (arith, f.entries); literals = rw (length-append k.bytes (literal_bytes l.tokens)) (omega (arith, f.literals)) }

  room_fits : (n used : ℕ) → n ≤ b.entries → used ≤ b.literals → (p : Position) (l : Left) → (n < b.entries → Fits b n used l) → Fits b n used (in_room b n p l)
  room_fits n used f g p l h = pick_cases (Fits b n used) (ltb n b.entries) _ _ (λ y. h (ltb-true n b.entries y)) (λ y. ended_fits n used f g _)

  pub cut_fits : (n used : ℕ) (r : Reading) → n ≤ b.entries → used ≤ b.literals → Fits b n used (cut_run b n used r)
  unfolding cut_run
  cut_fits n used (finishes p) f g = ended_fits n used f g _
  cut_fits n used (halts x) f g = ended_fits n used f g _
  cut_fits n used (spoils s t x) f g = on_scan_lem (Fits b n used) (scanned b used s t) _ (λ e m h. ended_fits n used f g _) (λ y h. ended_fits n used f g _)
  cut_fits n used (lists k r) f g =
      room_fits n used f g k.start.place _ (λ h. more_fits n used (kept_part k) _ (rw (add-zero used) (cut_fits (n + 1) used r (omega arith) g)))
  cut_fits n used (reads k t r) f g =
      on_scan_lem (Fits b n used) (scanned b used k.start t) _
      (λ e m h. let w = accepted_whole (full k.start) b.limit (b.literals - used) t e m h in
      room_fits n used f g k.start.place _ (λ i. more_fits n used (kept k used m (bytes t)) _ (rw (← w.0) (cut_fits (n + 1) (used + m) r (omega arith) (omega (arith, w.1))))))
      (λ y h. ended_fits n used f g _)
