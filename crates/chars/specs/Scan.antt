-- How a scanner goes through the characters of a text: one rule for one turn, and one driver for every scanner.
use Rattle.std.specs.Prelude.{ℕ, zero, suc, ◌+◌, Bool, false, List, [], ◌∷◌, eqb}
use Rattle.basis.specs.Types.{Text, Code, Offset}
use Rattle.utf8.specs.Table.{Ch, chars_at}

-- one turn: with a note for what the turn yields, k more characters than the first are taken and the scan goes on in a state; or it is over with a result
pub data Turn (S N R : Type 0) : Type 0 where
  go : N → ℕ → S → Turn S N R
  stop : R → Turn S N R

-- a scanner's rule: its turn at an offset, of the characters from there on, of which there is one at least; its result where the text ends; and what a note makes of the result of the rest
pub record Rule (S N R : Type 0) : Type 0 where
  pub turn : ℕ → List Ch → S → Turn S N R
  pub end : ℕ → S → R
  pub note : N → R → R

-- the bytes of the first n characters
unfoldable pub widths : ℕ → List Ch → ℕ
widths zero cs = 0
widths (suc n) [] = 0
widths (suc n) (c ∷ cs) = c.width + widths n cs

-- the next character is c
abbrev pub follows : Code → List Ch → Bool
follows c [] = false
follows c (d ∷ cs) = eqb d.code c

-- what a turn leads to
abbrev pub on_turn : {S N R A : Type 0} → Turn S N R → (N → ℕ → S → A) → (R → A) → A
on_turn (go n k s) f g = f n k s
on_turn (stop r) f g = g r

-- the scan, with k characters still to pass before the next turn
unfoldable pub run : {S N R : Type 0} → Rule S N R → ℕ → List Ch → Offset → S → R
run rule k [] at s = rule.end at s
run rule zero (c ∷ cs) at s = on_turn (rule.turn at (c ∷ cs) s) (λ n k s'. rule.note n (run rule k cs (at + c.width) s')) (λ r. r)
run rule (suc k) (c ∷ cs) at s = run rule k cs (at + c.width) s

-- the scan of a text from an offset
unfoldable pub run_at : {S N R : Type 0} → Rule S N R → Text → Offset → S → R
run_at rule t at s = run rule 0 (chars_at t at) at s

-- one turn of a text at an offset: on to another offset, or over
pub data Move (S N R : Type 0) : Type 0 where
  on : N → ℕ → S → Move S N R
  over : R → Move S N R

-- the turn of the characters that are left
abbrev pub move_in : {S N R : Type 0} → Rule S N R → List Ch → Offset → S → Move S N R
move_in rule [] at s = over (rule.end at s)
move_in rule (c ∷ cs) at s = on_turn (rule.turn at (c ∷ cs) s) (λ n k s'. on n (at + c.width + widths k cs) s') (λ r. over r)

-- the turn of a text at an offset
unfoldable pub move_at : {S N R : Type 0} → Rule S N R → Text → Offset → S → Move S N R
move_at rule t at s = move_in rule (chars_at t at) at s
