-- A run stays fine behind what it has passed. Assumes nothing.
use Prim.Native.Nat.{ℕ, zero, suc, ◌-◌, ◌≤◌, ◌<◌}
use native.Mathlib.Omega.{arith}
use mathlib.Core.Bool.{Bool}
use mathlib.Core.List.{List, [], ◌∷◌}
use lib.Dec.{eqb, leb}
use lib.ListN.{get_or, set}
use Rattle.basis.specs.Pick.{either}
use Rattle.basis.proofs.Cases.{pick_cases}
use Rattle.chars.specs.declared.cursor.Cursor.{Cursor}
use Rattle.token.specs.Tokens as Tokens
use Rattle.script.specs.declared.State.{State}
use Rattle.script.specs.declared.Crossed.{Crossed}
use Rattle.script.specs.declared.Crossed.TheVariants.{Plain, Piece, Token}
use Rattle.script.specs.States.{state, moved_to, interpolating, count, with_braces, resumed, opened, closed, behind, behind_of, Fine, Fits}

set_few : (l : List ℕ) (i v b : ℕ) → v ≤ b → ((j : ℕ) → get_or l j 0 ≤ b) → (j : ℕ) → get_or (set l i v) j 0 ≤ b
set_few [] i v b h f j = omega arith
set_few (x ∷ l) zero v b h f zero = h
set_few (x ∷ l) zero v b h f (suc j) = f (suc j)
set_few (x ∷ l) (suc i) v b h f zero = f zero
set_few (x ∷ l) (suc i) v b h f (suc j) = set_few l i v b h (λ k. f (suc k)) j

module _ (to : Cursor) (s : State) (fine : Fine s) (on : s.cursor.at < to.at) (short : to.at ≤ 16777216) where
  few : (j : ℕ) → get_or s.braces j 0 ≤ to.at
  few j = omega (arith, fine.few j)

  fine_at : (level : ℕ) (braces : List ℕ) (due : Bool) → level ≤ 16 → ((j : ℕ) → get_or braces j 0 ≤ to.at) → Fine (state to level braces due)
  fine_at level braces due h f = record { deep = h; few = f; short = short }

  fine_moved : Fine (moved_to to s)
  unfolding moved_to
  fine_moved = fine_at _ _ _ fine.deep few

  fine_opened : Fine (opened to s)
  unfolding opened with_braces count
  fine_opened =
      pick_cases Fine (eqb s.level 0) _ _ (λ y. fine_moved)
      (λ n. fine_at _ _ _ fine.deep (set_few s.braces (s.level - 1) _ to.at (omega (arith, fine.few (s.level - 1))) few))

  fine_closed : Fine (closed to s)
  unfolding closed with_braces resumed count
  fine_closed =
      pick_cases Fine (eqb s.level 0) _ _ (λ y. fine_moved)
      (λ n. pick_cases Fine (leb (get_or s.braces (s.level - 1) 0) 1) _ _
      (λ y. fine_at _ _ _ (omega (arith, fine.deep)) (set_few s.braces (s.level - 1) 0 to.at (omega arith) few))
      (λ m. fine_at _ _ _ fine.deep (set_few s.braces (s.level - 1) _ to.at (omega (arith, few (s.level - 1))) few)))

  pub fine_behind : (what : Crossed) → Fits what s → Fine (behind_of what to s)
  unfolding behind_of interpolating behind
  fine_behind Plain f = fine_moved
  fine_behind Piece f = fine_at _ _ _ (omega arith) (set_few s.braces s.level 0 to.at (omega arith) few)
  fine_behind (Token t) f =
      pick_cases Fine (either (eqb t Tokens.LeftBrace) (eqb t Tokens.MapStart)) _ _ (λ y. fine_opened)
      (λ n. pick_cases Fine (eqb t Tokens.RightBrace) _ _ (λ y. fine_closed) (λ m. fine_moved))
