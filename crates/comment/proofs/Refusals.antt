-- What is known of arguments that nothing refuses. Assumes nothing.
use Prim.Native.Nat.{ℕ, ◌≤◌}
use mathlib.Core.Bool.{Bool, true, false}
use mathlib.Core.List.{List}
use mathlib.Core.Path.{◌≡◌, refl}
use lib.Dec.{leb}
use lib.ListN.{length}
use borrow.Author.Tests.{leb-true}
use Rattle.std.specs.Prelude.{Err, Ok}
use Rattle.lex_error.specs.declared.LexError.TheVariants.{BadArgument}
use Rattle.lex_error.specs.Numbers.{Asked, no_refusal, asked_then}
use Rattle.basis.specs.Pick.{pick, both}
use Rattle.basis.proofs.Cases.{both_left, both_right}
use Rattle.position.specs.declared.Position.{Position}
use Rattle.position.specs.Place.{on_line}
use Rattle.utf8.specs.Table.{◌‥◌, within}
use Rattle.door.specs.Door.{door_of}
use Rattle.door.proofs.Doors.{admitted}
use Rattle.comment.specs.Block.{comment_refuses}

pub nothing_refused : (t : List ℕ) (at : ℕ) (p : Position) (level : ℕ) → comment_refuses t at p level ≡ no_refusal → (at ≤ length t) × (1 ≤ level) × (level ≤ 65535)
unfolding comment_refuses
nothing_refused t at p level e = go (door_of t at) (both (on_line p) (within (1 ‥ 65535) level)) refl refl e
  where
    go : (a : Asked) (b : Bool) → door_of t at ≡ a → both (on_line p) (within (1 ‥ 65535) level) ≡ b → ◌≡◌ {A = Asked} (asked_then a (pick b no_refusal (Err BadArgument))) no_refusal → (at ≤ length t) × (1 ≤ level) × (level ≤ 65535)
    go (Err f) b q r h = cc
    go (Ok u) false q r h = cc
    go (Ok u) true q r h =
        let w = both_right (on_line p) (within (1 ‥ 65535) level) r in
        ((admitted t at q).within, leb-true 1 level (both_left (leb 1 level) (leb level 65535) w), leb-true level 65535 (both_right (leb 1 level) (leb level 65535) w))
