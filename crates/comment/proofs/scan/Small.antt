-- The place where a comment ends is small where its start is. Assumes nothing.
use Prim.Native.Nat.{ℕ, ◌+◌}
use mathlib.Core.List.{List}
use lib.Dec.{eqb}
use Rattle.basis.specs.Pick.{both}
use Rattle.basis.proofs.Cases.{pick_cases}
use Rattle.position.proofs.Small.{Small, advanced_small, lined_small}
use Rattle.utf8.specs.Table.{chars_at}
use Rattle.chars.specs.Scan.{follows}
use Rattle.chars.specs.declared.cursor.Cursor.{Cursor}
use Rattle.chars.proofs.Keeps.{Kept, scan_keeps}
use Rattle.classes.specs.Marks.{lf, star, slash}
use Rattle.comment.specs.Block.{Inside, inside, comment_turn, comment_rule, comment_of}
use Rattle.comment.specs.declared.scan.Comment.{Comment}

pub comment_small : (t : List ℕ) (start : Cursor) (level : ℕ) → Small start.place → Small (comment_of t start level).cursor.place
unfolding comment_of comment_turn
comment_small t start level h =
    scan_keeps comment_rule t P Q (λ at s k. k)
    (λ at c w s e k.
    let one = advanced_small k in
    let two = advanced_small one in
    pick_cases (Kept comment_rule t P Q) (both (eqb c slash) (follows star (chars_at t (at + w)))) _ _ (λ y. two)
    (λ n. pick_cases (Kept comment_rule t P Q) (both (eqb c star) (follows slash (chars_at t (at + w)))) _ _
    (λ y. pick_cases (Kept comment_rule t P Q) (eqb s.level 1) _ _ (λ z. two) (λ z. two))
    (λ m. pick_cases (Kept comment_rule t P Q) (eqb c lf) _ _ (λ y. lined_small one) (λ z. one))))
    (λ n r k. k) start.at (inside level start.place) h
  where
    P : Inside → Type 0
    P s = Small s.place

    Q : Comment → Type 0
    Q r = Small r.cursor.place
