-- A cursor at a small place within a text; a character that is taken leads to one. Assumes nothing.
use Rattle.std.specs.Prelude.{None, Some}
use Prim.Native.Nat.{ℕ, ◌≤◌}
use mathlib.Core.List.{List}
use mathlib.Core.Path.{◌≡◌, refl}
use lib.ListN.{length}
use Rattle.position.specs.declared.Position.{Position}
use Rattle.position.specs.Place.{advanced}
use Rattle.position.proofs.Small.{Small, advanced_small}
use Rattle.utf8.specs.Table.{look_at}
use Rattle.utf8.specs.Looks.{Look}
use Rattle.utf8.proofs.Laws.{at_width}
use Rattle.chars.specs.Cursors.{taken_on, get_next_of, eat_next_of}
use Rattle.chars.specs.declared.cursor.Cursor.{Cursor}
use Rattle.chars.specs.Takes.{Taken}

module _ (t : List ℕ) where
  abbrev pub In : Cursor → Type 0
  In c = Small c.place × (c.at ≤ length t)

  abbrev pub TakenIn : Taken → Type 0
  TakenIn (Some (c, next)) = In next
  TakenIn None = Unit {0}

  taken_in : (at : ℕ) (p : Position) → Small p → (x : Look) → look_at t at ≡ x → TakenIn (taken_on at p x)
  taken_in at p h (Some (c, w)) e = (h, (at_width t at e).1)
  taken_in at p h None e = tt

  module _ (s : Cursor) (h : Small s.place) where
    pub got_in : TakenIn (get_next_of t s)
    unfolding get_next_of
    got_in = taken_in s.at s.place h (look_at t s.at) refl

    pub ate_in : TakenIn (eat_next_of t s)
    unfolding eat_next_of
    ate_in = taken_in s.at (advanced s.place) (advanced_small h) (look_at t s.at) refl
