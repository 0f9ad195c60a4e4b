-- Where a scan of a comment ends: at its start or behind it, within the text, and where a character begins if one does at its start. Assumes nothing.
use Rattle.std.specs.Prelude.{None, Some}
use Prim.Native.Nat.{ℕ, zero, suc, ◌+◌, ◌≤◌}
use native.Mathlib.Omega.{arith}
use native.Mathlib.Nat.{add-zero}
use mathlib.Core.Bool.{true}
use mathlib.Core.List.{List, ◌∷◌}
use mathlib.Core.Path.{◌≡◌, refl}
use lib.Dec.{eqb}
use lib.ListN.{length}
use Rattle.basis.specs.Pick.{both}
use Rattle.basis.proofs.Cases.{pick_cases}
use Rattle.utf8.specs.Table.{ch, chars, chars_at, edge, look_at}
use Rattle.utf8.specs.Looks.{Look, char_found}
use Rattle.utf8.proofs.Laws.{at_width, chars_char, chars_end, by_chars}
use Rattle.utf8.proofs.Edges.{edge_step}
use Rattle.chars.specs.Scan.{Turn, on_turn, follows, widths, run, run_at}
use Rattle.chars.specs.declared.cursor.Cursor.{Cursor}
use Rattle.classes.specs.Marks.{lf}
use Rattle.comment.specs.Block.{Inside, comment_turn, comment_rule, inside, comment_of}
use Rattle.comment.specs.declared.scan.Comment.{Comment}

-- an end that a scan from an offset may come to
pub record Reached (t : List ℕ) (at end : ℕ) : Type 0 where
  pub forward : at ≤ end
  pub within : at ≤ length t → end ≤ length t
  pub edges : edge (chars t) at ≡ true → edge (chars t) end ≡ true

module _ (t : List ℕ) where
  stays : (at : ℕ) → Reached t at at
  stays at = record { forward = omega arith; within = λ l. l; edges = λ b. b }

  before : {at c w n : ℕ} → look_at t at ≡ char_found c w → Reached t (at + w) n → Reached t at n
  before {at} e r =
      let h = at_width t at e in
      record { forward = let k = r.forward in omega arith; within = λ l. r.within h.1; edges = λ b. r.edges (edge_step t at b e) }

  -- the character that is next, if there is one
  next_one : (at : ℕ) → Reached t at (at + widths 1 (chars_at t at))
  unfolding widths
  next_one at = go (look_at t at) refl
    where
      go : (x : Look) → look_at t at ≡ x → Reached t at (at + widths 1 (chars_at t at))
      go (Some (c, w)) e = rw (chars_char t at e, add-zero) (before e (stays (at + w)))
      go None e = rw (chars_end t at e, add-zero) (stays at)

  module _ (at c w : ℕ) (rest : ℕ → Inside → Comment) (h : (k : ℕ) (s : Inside) → Reached t (at + w) (rest k s).cursor.at) where
    abbrev Turned : Turn Inside (Unit {0}) Comment → Type 0
    Turned x = Reached t (at + w) (on_turn x (λ n k s. rest k s) (λ r. r)).cursor.at

    turned : (s : Inside) → Turned (comment_turn at (ch c w ∷ chars_at t (at + w)) s)
    unfolding comment_turn
    turned s =
        pick_cases Turned (both (eqb c 0x2F) (follows 0x2A (chars_at t (at + w)))) _ _ (λ q. h _ _) (λ q.
        pick_cases Turned (both (eqb c 0x2A) (follows 0x2F (chars_at t (at + w)))) _ _
        (λ q. pick_cases Turned (eqb s.level 1) _ _ (λ q. next_one (at + w)) (λ q. h _ _))
        (λ q. pick_cases Turned (eqb c lf) _ _ (λ q. h _ _) (λ q. h _ _)))

  every : (at k : ℕ) (s : Inside) → Reached t at (run comment_rule k (chars_at t at) at s).cursor.at
  unfolding run
  every =
      by_chars t (λ at. (k : ℕ) (s : Inside) → Reached t at (run comment_rule k (chars_at t at) at s).cursor.at)
      (λ at e k s. rw (chars_end t at e) (stays at))
      (λ at c w e ih k s. rw (chars_char t at e) (passes at c w e ih k s))
    where
      passes : (at c w : ℕ) → look_at t at ≡ char_found c w → ((k : ℕ) (s : Inside) → Reached t (at + w) (run comment_rule k (chars_at t (at + w)) (at + w) s).cursor.at) → (k : ℕ) (s : Inside)
          → Reached t at (run comment_rule k (ch c w ∷ chars_at t (at + w)) at s).cursor.at
      passes at c w e ih zero s = before e (turned at c w (λ k r. run comment_rule k (chars_at t (at + w)) (at + w) r) ih s)
      passes at c w e ih (suc k) s = before e (ih k s)

  pub comment_reached : (start : Cursor) (level : ℕ) → Reached t start.at (comment_of t start level).cursor.at
  unfolding comment_of run_at
  comment_reached start level = every start.at 0 (inside level start.place)
