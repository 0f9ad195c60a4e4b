-- A turn of the measuring loop: what is left of the answer after it. Assumes nothing.
use Rattle.literal.specs.Scans.{accepted_as}
use Rattle.std.specs.Prelude.{Err}
use Prim.Native.Nat.{ℕ, ◌+◌, ◌≤◌, ◌<◌}
use native.Mathlib.Omega.{arith}
use mathlib.Core.Bool.{true, false}
use mathlib.Core.List.{List}
use mathlib.Core.Path.{◌≡◌, ap, ◌∙◌}
use Rattle.position.specs.declared.Position.{Position}
use Rattle.chars.specs.Cursors.{cursor}
use Rattle.chars.specs.Scan.{move_at, over, run_at}
use Rattle.chars.proofs.Scans.{move_on, move_over}
use Rattle.literal.specs.Trace.{Trace, ends, adds, checks, yields, passes}
use Rattle.literal.specs.Cut.{cut}
use Rattle.literal.specs.declared.End.{End}
use Rattle.literal.specs.declared.Refusal.{Refusal}
use Rattle.literal.proofs.Turns.{cut_ends, cut_full, cut_adds, cut_long, cut_on}
use Rattle.literal.specs.Answers.{too_long}
use Rattle.raw.specs.Raw.{BodyState, body_rule, Newlines, hashes_of}
use Rattle.raw.specs.Step.{Adds}

module _ (mode : Newlines) (start : Position) (t : List ℕ) (k at : ℕ) (s : BodyState) where
  abbrev rest : Trace
  rest = run_at (body_rule mode start k) t at s

  -- what a turn that goes on adds to the reading
  pub went_on : {m next : ℕ} {r : BodyState} → (a : Adds mode t k at s m next r) → rest ≡ adds a.bytes (checks (too_long start (cursor next r.place) (hashes_of k)) (run_at (body_rule mode start k) t next r))
  unfolding yields
  went_on a = move_on (body_rule mode start k) t at s (a.moves start)

  module _ (full : Refusal) (limit room n : ℕ) where
    pub is_over : {e : End} → ((p : Position) → move_at (body_rule mode p k) t at s ≡ over (ends e)) → cut full limit room n rest ≡ accepted_as e n
    is_over {e} h = ap (cut full limit room n) (move_over (body_rule mode start k) t at s (h start)) ∙ cut_ends full limit room n e

    -- n' bytes are in the body then
    module _ {m next : ℕ} {r : BodyState} (a : Adds mode t k at s m next r) (l : n ≤ room) {n' : ℕ} (q : n' ≡ n + m) where
      pub no_room : room < n' → cut full limit room n rest ≡ Err full
      no_room h = rw (went_on a) (cut_full full limit room n m a.bytes _ a.count l (omega arith))

      module _ (h : n' ≤ room) where
        pub is_too_long : passes limit n' ≡ true → cut full limit room n rest ≡ Err (too_long start (cursor next r.place) (hashes_of k))
        is_too_long o = rw (went_on a) (cut_adds full limit room n m a.bytes _ a.count l (omega arith) ∙ cut_long full limit room (n + m) _ _ (rw (← q) o))

        pub goes_on : passes limit n' ≡ false → cut full limit room n rest ≡ cut full limit room n' (run_at (body_rule mode start k) t next r)
        goes_on o = rw (went_on a, q) (cut_adds full limit room n m a.bytes _ a.count l (omega arith) ∙ cut_on full limit room (n + m) _ _ (rw (← q) o))
