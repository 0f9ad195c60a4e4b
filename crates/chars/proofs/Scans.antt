-- One turn of a scan over a text, from what looking at an offset finds. A loop's invariant is that the scan from here, after the notes so far, is the scan from the start; each law is one way through the loop.
-- Assumes nothing.
use Rattle.std.specs.Prelude.{None, Some}
use Prim.Native.Nat.{ℕ, zero, suc, ◌+◌}
use native.Mathlib.Nat.{add-zero, add_assoc}
use mathlib.Core.List.{List, ◌∷◌}
use mathlib.Core.Path.{◌≡◌, refl, ap, sym, ◌∙◌}
use Rattle.utf8.specs.Table.{ch, chars_at, look_at}
use Rattle.utf8.specs.Looks.{Look, char_found}
use Rattle.utf8.proofs.Laws.{chars_char, chars_end}
use Rattle.chars.specs.Scan.{Turn, go, stop, Rule, run, run_at, widths, on_turn, Move, on, over, move_at}

-- the bytes of one more character
pub widths_char : (t : List ℕ) (at k : ℕ) {c w : ℕ} → look_at t at ≡ char_found c w → widths (suc k) (chars_at t at) ≡ w + widths k (chars_at t (at + w))
unfolding widths
widths_char t at k e = rw (chars_char t at e)

module _ {S N R : Type 0} (rule : Rule S N R) (t : List ℕ) where
  -- to pass k characters is to start again behind them
  skip : (k at : ℕ) (s : S) → run rule k (chars_at t at) at s ≡ run_at rule t (at + widths k (chars_at t at)) s
  unfolding run run_at widths
  skip zero at s = ap (λ (n : ℕ). run rule 0 (chars_at t n) n s) (sym (add-zero at))
  skip (suc k) at s = by (look_at t at) refl (λ n. skip k n s)
    where
      by : (x : Look) → look_at t at ≡ x → ((n : ℕ) → run rule k (chars_at t n) n s ≡ run rule 0 (chars_at t (n + widths k (chars_at t n))) (n + widths k (chars_at t n)) s)
          → run rule (suc k) (chars_at t at) at s ≡ run rule 0 (chars_at t (at + widths (suc k) (chars_at t at))) (at + widths (suc k) (chars_at t at)) s
      by (Some (c, w)) e ih = rw (chars_char t at e) (ih (at + w) ∙ ap (λ (n : ℕ). run rule 0 (chars_at t n) n s) (add_assoc at w (widths k (chars_at t (at + w)))))
      by None e ih = rw (chars_end t at e) (rw (add-zero, chars_end t at e))

  -- what is left of the scan after a move
  resume : Move S N R → R
  resume (on n at s) = rule.note n (run_at rule t at s)
  resume (over r) = r

  module _ (at : ℕ) (s : S) where
    moved : run_at rule t at s ≡ resume (move_at rule t at s)
    unfolding run run_at move_at resume
    moved = by (look_at t at) refl
      where
        turned : (w : ℕ) (x : Turn S N R)
            → on_turn x (λ n k s'. rule.note n (run rule k (chars_at t (at + w)) (at + w) s')) (λ r. r)
            ≡ resume (on_turn x (λ n k s'. on n (at + w + widths k (chars_at t (at + w))) s') (λ r. over r))
        turned w (go n k s') = ap (rule.note n) (skip k (at + w) s')
        turned w (stop r) = refl

        by : (x : Look) → look_at t at ≡ x → run_at rule t at s ≡ resume (move_at rule t at s)
        by (Some (c, w)) e = rw (chars_char t at e) (turned w (rule.turn at (ch c w ∷ chars_at t (at + w)) s))
        by None e = rw (chars_end t at e)

    -- a scan goes as its move says
    pub move_on : {n : N} {at' : ℕ} {s' : S} → move_at rule t at s ≡ on n at' s' → run_at rule t at s ≡ rule.note n (run_at rule t at' s')
    unfolding resume
    move_on q = moved ∙ ap resume q

    pub move_over : {r : R} → move_at rule t at s ≡ over r → run_at rule t at s ≡ r
    unfolding resume
    move_over q = moved ∙ ap resume q

    -- the text ends here
    pub at_end_lem : look_at t at ≡ None → move_at rule t at s ≡ over (rule.end at s)
    unfolding move_at
    at_end_lem e = rw (chars_end t at e)

    -- a turn that takes one character, two, or any number; and one that is over
    module _ {c w : ℕ} (e : look_at t at ≡ char_found c w) where
      pub one_on : {n : N} {s' : S} → rule.turn at (ch c w ∷ chars_at t (at + w)) s ≡ go n 0 s' → move_at rule t at s ≡ on n (at + w) s'
      unfolding move_at widths
      one_on q = rw (chars_char t at e, q, add-zero)

      pub two_on : {d v : ℕ} → look_at t (at + w) ≡ char_found d v → {n : N} {s' : S} → rule.turn at (ch c w ∷ chars_at t (at + w)) s ≡ go n 1 s' → move_at rule t at s ≡ on n (at + w + v) s'
      unfolding move_at widths
      two_on f q = rw (chars_char t at e, q, chars_char t (at + w) f, add-zero)

      pub many_on : {n : N} {k : ℕ} {s' : S} → rule.turn at (ch c w ∷ chars_at t (at + w)) s ≡ go n k s' → move_at rule t at s ≡ on n (at + w + widths k (chars_at t (at + w))) s'
      unfolding move_at
      many_on q = rw (chars_char t at e, q)

      pub is_over : {r : R} → rule.turn at (ch c w ∷ chars_at t (at + w)) s ≡ stop r → move_at rule t at s ≡ over r
      unfolding move_at
      is_over q = rw (chars_char t at e, q)
