-- The skip of ASCII white space, for each way through its loop; and what it passes is found white, one character after the other. Assumes nothing.
use Rattle.std.specs.Prelude.{None, Some}
use Prim.Native.Nat.{ℕ, zero, suc, ◌+◌, ◌-◌, ◌≤◌, ◌<◌}
use native.Mathlib.Omega.{arith}
use mathlib.Core.Bool.{Bool, true, false}
use mathlib.Core.List.{List}
use mathlib.Core.Path.{◌≡◌, refl, ◌∙◌}
use lib.Dec.{ltb}
use lib.ListN.{length}
use borrow.Author.Tests.{eq-eqb, ne_eqb, lt-ltb, le-ltb}
use Rattle.basis.specs.Pick.{both}
use Rattle.basis.proofs.Cases.{both_right, both_no}
use Rattle.position.specs.declared.Position.{Position}
use Rattle.position.specs.Place.{advanced, lined}
use Rattle.utf8.specs.Table.{look_at}
use Rattle.utf8.specs.Looks.{Look, char_found}
use Rattle.utf8.proofs.Laws.{at_width}
use Rattle.chars.specs.Cursors.{cursor}
use Rattle.chars.specs.declared.cursor.Cursor.{Cursor}
use Rattle.find.specs.Find.{white_of, find_of}
use Rattle.find.specs.Skip.{past_white, on_blank, on_character, skip_from, skip_of}
use Rattle.find.specs.declared.Found.TheVariants.{White}
use Rattle.find.proofs.Begins.{finds_white}

-- ---- the loop: what is skipped from here is what is skipped from the start, and there are characters enough
pub record Skipping (white : ℕ → Bool) (t : List ℕ) (from s : Cursor) : Type 0 where
  pub left : ℕ
  pub enough : length t ≤ s.at + left
  pub same : skip_of white t from ≡ skip_from white left t s

module _ (white : ℕ → Bool) (t : List ℕ) (from : Cursor) where
  pub skip_begun : Skipping white t from from
  unfolding skip_of
  skip_begun = record { left = length t - from.at; enough = omega arith; same = refl }

  module _ {at : ℕ} {p : Position} (k : Skipping white t from (cursor at p)) where
    -- nothing more is skipped
    stops : ((n : ℕ) → skip_from white (suc n) t (cursor at p) ≡ cursor at p) → skip_of white t from ≡ cursor at p
    unfolding skip_from
    stops h = k.same ∙ by k.left
      where
        by : (n : ℕ) → skip_from white n t (cursor at p) ≡ cursor at p
        by zero = refl
        by (suc n) = h n

    pub skip_end : look_at t at ≡ None → skip_of white t from ≡ cursor at p
    unfolding skip_from
    skip_end e = stops (λ n. rw e)

    module _ {c w : ℕ} (e : look_at t at ≡ char_found c w) where
      pub skip_beyond : 0x80 ≤ c → skip_of white t from ≡ cursor at p
      unfolding skip_from
      skip_beyond h = stops (λ n. rw (e, le-ltb c 0x80 h))

      pub skip_other : white c ≡ false → skip_of white t from ≡ cursor at p
      unfolding skip_from
      skip_other h = stops (λ n. rw (e, h, both_no (ltb c 0x80)))

      -- one more
      module _ (h : c < 0x80) (y : white c ≡ true) where
        goes : (to : Cursor) → past_white c (cursor (at + w) (advanced p)) ≡ to → to.at ≡ at + w → Skipping white t from to
        unfolding skip_from
        goes to q z =
            by k.left k.enough k.same
          where
            by : (n : ℕ) → length t ≤ at + n → skip_of white t from ≡ skip_from white n t (cursor at p) → Skipping white t from to
            by zero m d = let wide = at_width t at e in absurd (omega (arith, wide))
            by (suc n) m d = let wide = at_width t at e in record { left = n; enough = omega (arith, wide); same = rw (e, lt-ltb c 0x80 h, y, q) at d }

        pub skip_line : c ≡ 0x0A → Skipping white t from (cursor (at + w) (lined (advanced p)))
        skip_line q = goes _ (rw (eq-eqb c 0x0A q)) refl

        pub skip_more : (c ≡ 0x0A → ⊥) → Skipping white t from (cursor (at + w) (advanced p))
        skip_more q = goes _ (rw (ne_eqb c 0x0A q)) refl

-- what is found is white up to there
whitening : (c : ℕ) (to : Cursor) → white_of c to ≡ White (past_white c to)
unfolding white_of
whitening c to = refl

-- ---- what is skipped is found white: what finding one character white keeps holds behind all of them
module _ (white : ℕ → Bool) (t book : List ℕ) (P : Cursor → Type 0) (on : (s to : Cursor) → find_of white t book s ≡ White to → P s → P to) where
  -- the first one, where the rest is known
  first_skipped : (next : Cursor → Cursor) → ((c : Cursor) → P c → P (next c)) → (s : Cursor) → P s → P (on_character white s (look_at t s.at) next)
  first_skipped next rest s h = seen (look_at t s.at) refl
    where
      past : (c w : ℕ) → look_at t s.at ≡ char_found c w → (b : Bool) → both (ltb c 0x80) (white c) ≡ b → P (on_blank b (past_white c (cursor (s.at + w) (advanced s.place))) s next)
      past c w e false q = h
      past c w e true q = rest _ (on s _ (finds_white white t book s e (both_right (ltb c 0x80) (white c) q) ∙ whitening c _) h)

      seen : (x : Look) → look_at t s.at ≡ x → P (on_character white s x next)
      seen None e = h
      seen (Some (c, w)) e = past c w e (both (ltb c 0x80) (white c)) refl

  pub skipped_by : (n : ℕ) (s : Cursor) → P s → P (skip_from white n t s)
  unfolding skip_from
  skipped_by zero s h = h
  skipped_by (suc n) s h = first_skipped (λ c. skip_from white n t c) (λ c k. skipped_by n c k) s h
