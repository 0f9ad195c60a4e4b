-- The row that the export writes, from what its calls tell. Assumes nothing.
use Prim.Native.Nat.{ℕ}
use mathlib.Core.List.{List}
use mathlib.Core.Path.{◌≡◌, refl}
use lib.ListN.{length}
use Rattle.position.specs.Place.{given}
use Rattle.position.specs.declared.Position.{Position}
use Rattle.chars.specs.Cursors.{cursor}
use Rattle.comment.specs.Block.{told, scan_block_comment_of}
use Rattle.comment.specs.Answer.{Commented}
use Rattle.c_scanners.specs.CommentRow.{comment_numbers, comment_row}

module _ (t : List ℕ) (at l c level : ℕ) where
  pub row_long : length (comment_row t at l c level) ≡ 4
  unfolding comment_row
  row_long = refl

  pub row_is : {p : Position} {s : Commented} {r : List ℕ} → p ≡ given l c → s ≡ scan_block_comment_of t at p level → r ≡ comment_numbers (told level (cursor at p) s) → r ≡ comment_row t at l c level
  unfolding comment_row
  row_is e f g = rw (g, f, e)
