-- What holds of a scan's end and of every turn that is over, and of a turn where it holds behind it, holds of the scan. Assumes nothing.
use Rattle.std.specs.Prelude.{None, Some}
use Prim.Native.Nat.{ℕ, zero, suc, ◌+◌, ◌≤◌, ◌<◌}
use native.Mathlib.Omega.{arith}
use mathlib.Core.List.{List, ◌∷◌}
use mathlib.Core.Path.{◌≡◌, refl}
use lib.ListN.{length}
use Rattle.utf8.specs.Table.{ch, chars_at, look_at}
use Rattle.utf8.specs.Looks.{Look, char_found}
use Rattle.utf8.proofs.Laws.{at_width, chars_char, chars_end}
use Rattle.chars.specs.Scan.{Turn, go, stop, Rule, run_at, widths}
use Rattle.chars.proofs.Scans.{move_on, move_over, at_end_lem, many_on, is_over}

-- some characters from an offset within the text end within it
pub widths_within : (t : List ℕ) (k at : ℕ) → at ≤ length t → at + widths k (chars_at t at) ≤ length t
unfolding widths
widths_within t zero at h = omega arith
widths_within t (suc k) at h = by (look_at t at) refl (λ n. widths_within t k n)
  where
    by : (x : Look) → look_at t at ≡ x → ((n : ℕ) → n ≤ length t → n + widths k (chars_at t n) ≤ length t) → at + widths (suc k) (chars_at t at) ≤ length t
    by (Some (c, w)) e ih =
        let r = ih (at + w) (at_width t at e).1 in
        rw (chars_char t at e) (omega (arith, r))
    by None e ih = rw (chars_end t at e) (omega arith)

module _ {S N R : Type 0} (rule : Rule S N R) (t : List ℕ) (Q : ℕ → S → R → Type 0)
    (ends : (at : ℕ) (s : S) → Q at s (rule.end at s))
    (stops : (at c w : ℕ) (s : S) (r : R) → look_at t at ≡ char_found c w → rule.turn at (ch c w ∷ chars_at t (at + w)) s ≡ stop r → Q at s r)
    (goes : (at c w : ℕ) (s : S) (n : N) (k : ℕ) (s' : S) → look_at t at ≡ char_found c w → rule.turn at (ch c w ∷ chars_at t (at + w)) s ≡ go n k s'
    → (to : ℕ) (r : R) → at < to → to ≤ length t → Q to s' r → Q at s (rule.note n r)) where
  -- what holds behind a turn
  abbrev Rest : ℕ → Type 0
  Rest k = (to : ℕ) (s : S) → length t < to + k → Q to s (run_at rule t to s)

  held : (k at : ℕ) (s : S) → length t < at + k → Q at s (run_at rule t at s)
  held zero at s h = by (look_at t at) refl
    where
      by : (x : Look) → look_at t at ≡ x → Q at s (run_at rule t at s)
      by (Some (c, w)) e = absurd (omega (arith, at_width t at e))
      by None e = rw (move_over rule t at s (at_end_lem rule t at s e)) (ends at s)
  held (suc k) at s h = by (look_at t at) refl (held k)
    where
      turned : (c w : ℕ) → look_at t at ≡ char_found c w → Rest k → (x : Turn S N R) → rule.turn at (ch c w ∷ chars_at t (at + w)) s ≡ x → Q at s (run_at rule t at s)
      turned c w e ih (stop r) q = rw (move_over rule t at s (is_over rule t at s e q)) (stops at c w s r e q)
      turned c w e ih (go n j s') q =
          let width = at_width t at e in
          let to = at + w + widths j (chars_at t (at + w)) in
          rw (move_on rule t at s (many_on rule t at s e q)) (goes at c w s n j s' e q to _ (omega (arith, width)) (widths_within t j (at + w) width.1) (ih to s' (omega (arith, width))))

      by : (x : Look) → look_at t at ≡ x → Rest k → Q at s (run_at rule t at s)
      by (Some (c, w)) e ih = turned c w e ih (rule.turn at (ch c w ∷ chars_at t (at + w)) s) refl
      by None e ih = rw (move_over rule t at s (at_end_lem rule t at s e)) (ends at s)

  pub scan_holds : (at : ℕ) (s : S) → Q at s (run_at rule t at s)
  scan_holds at s = held (suc (length t)) at s (omega arith)
