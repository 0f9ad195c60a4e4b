-- A character found is taken; where none is found there is none to take.
use Rattle.utf8.specs.Looks.{char_found}
use Prim.Native.Nat.{ℕ}
use native.Mathlib.Omega.{arith}
use mathlib.Core.List.{List}
use mathlib.Core.Path.{◌≡◌, sym, ◌∙◌}
use Rattle.utf8.specs.Table.{look_at}
use Rattle.utf8.proofs.Laws.{at_width}
use Rattle.chars.proofs.Cursors.{got, got_none}
use Rattle.chars.specs.declared.cursor.Cursor.{Cursor}
use Rattle.chars.proofs.cursor.Cursor.get_next.Goals as goal
use Rattle.chars.proofs.cursor.Cursor.get_next.Goals.{In_ok-c}

-- the character that the look found
module _ (k : In_ok-c) where
  abbrev text : List ℕ
  text = k.args.text.now

  abbrev self : Cursor
  self = k.args.self

  found : look_at text self.at ≡ char_found k.in_ok-c.c k.in_ok-c.w
  found = sym k.look_at.ensures ∙ k.in_ok-c.was

pub returns-in_err-c : goal.returns-in_err-c
returns-in_err-c c = c.from_residual.ensures ∙ sym (got_none _ _ (sym c.look_at.ensures ∙ c.in_err-c.was))

pub overflow_add-result : goal.overflow_add-result
overflow_add-result c = omega (arith, at_width _ _ (found (goal.at.overflow_add-result c).In_ok-c))

pub returns : goal.returns
returns c = sym (got _ _ (found (goal.at.returns c).In_ok-c))
