-- What is found tells small numbers where its start is small. Assumes nothing.
use Rattle.std.specs.Prelude.{Err, None, Ok, Some}
use Prim.Native.Nat.{ℕ, ◌+◌, ◌-◌, ◌≤◌}
use native.Mathlib.Omega.{arith}
use mathlib.Core.Bool.{Bool}
use mathlib.Core.List.{List}
use mathlib.Core.Path.{◌≡◌, refl}
use lib.Dec.{eqb}
use lib.ListN.{length}
use Rattle.basis.proofs.Cases.{pick_cases}
use Rattle.position.specs.declared.Position.{Position}
use Rattle.position.specs.Place.{advanced}
use Rattle.position.proofs.Small.{Small, advanced_small, advanced_by_small, lined_small}
use Rattle.utf8.specs.Table.{look_at}
use Rattle.utf8.specs.Looks.{Look, char_found}
use Rattle.utf8.proofs.Laws.{at_width}
use Rattle.classes.specs.Class.{is_numeric_digit}
use Rattle.chars.specs.Cursors.{cursor}
use Rattle.chars.specs.declared.cursor.Cursor.{Cursor}
use Rattle.fault.proofs.Small.{Tells, fault_tells}
use Rattle.chars.specs.declared.stretch.Stretch.TheVariants as Stretch
use Rattle.chars.proofs.stretch.Small.{end_small}
use Rattle.identifier.specs.Identifiers.{identify_of}
use Rattle.identifier.specs.Answer.{Identified}
use Rattle.identifier.proofs.scan.Small.{IdentifiedSmall, identified_small}
use Rattle.symbols.specs.Symbols.{longest_symbol_of}
use Rattle.symbols.specs.Found.{Longest}
use Rattle.comment.specs.Block.{comment_of}
use Rattle.comment.proofs.scan.Small.{comment_small}
use Rattle.find.specs.Find.{white_of, word_of, number_run, symbol_of, line_comment, block_comment, sign_at, on_sign, mark_of, begins_word, begins_of, on_look, find_of}
use Rattle.find.specs.declared.Sign.{Sign}
use Rattle.find.specs.declared.Sign.TheVariants as sign
use Rattle.find.specs.declared.Found.{Found}
use Rattle.find.specs.declared.Found.TheVariants.{White, Part, Literal, Wrong, End}

module _ (white : ℕ → Bool) (t book : List ℕ) where
  abbrev pub FoundSmall : Found → Type 0
  FoundSmall (White c) = Small c.place
  FoundSmall (Part c k w) = Small c.place
  FoundSmall (Literal c o) = Small c.place
  FoundSmall (Wrong f) = Tells (length t) f
  FoundSmall End = Unit {0}

  module _ (at : ℕ) (p : Position) (h : Small p) where
    -- a character stands there, so many bytes wide
    symbol_small : (w : ℕ) → at + w ≤ length t → (x : Longest) → FoundSmall (symbol_of at w p x)
    unfolding symbol_of
    symbol_small w l (Some (k, n)) = advanced_by_small (n - 1) h
    symbol_small w l None = record { number = omega arith; place = h; at = omega arith; len = omega arith }

    word_small : (x : Identified) → IdentifiedSmall t book (cursor at p) h x → FoundSmall (word_of x)
    unfolding word_of
    word_small (Ok w) k = k
    word_small (Err (f, e)) k = k

    module _ (c w : ℕ) (e : look_at t at ≡ char_found c w) where
      wide : (1 ≤ w) × (at + w ≤ length t) × (w ≤ 4)
      wide = at_width t at e

      line_small : FoundSmall (line_comment t (cursor (at + 2) (advanced p)))
      unfolding line_comment
      line_small = end_small Stretch.Line t (cursor (at + 2) (advanced p)) (advanced_small h)

      block_small : FoundSmall (block_comment t (cursor (at + 2) (advanced p)))
      unfolding block_comment
      block_small =
          let from = cursor (at + 2) (advanced p) in
          let k = comment_small t from 1 (advanced_small h) in
          pick_cases FoundSmall (eqb (comment_of t from 1).level 0) _ _ (λ y. k) (λ n. fault_tells (length t) _ k)

      mark_small : FoundSmall (mark_of t at p c w)
      unfolding mark_of
      mark_small = by (sign_at t at c)
        where
          by : (m : Sign) → FoundSmall (on_sign t at p w m)
          by (sign.Literal o) = h
          by sign.Line = line_small
          by sign.Block = block_small
          by sign.Symbol = symbol_small w wide.1 (longest_symbol_of t at)

      begins_small : FoundSmall (begins_of white t book at p c w)
      unfolding begins_of white_of number_run
      begins_small =
          pick_cases FoundSmall (white c) _ _ (λ y. pick_cases (λ (x : Cursor). Small x.place) (eqb c 0x0A) _ _ (λ z. lined_small h) (λ z. h))
          (λ n1. pick_cases FoundSmall (begins_word c) _ _
          (λ y. word_small (identify_of t book (cursor at p)) (identified_small t book (cursor at p) h))
          (λ n2. pick_cases FoundSmall (is_numeric_digit c) _ _ (λ y. end_small Stretch.Word t (cursor (at + w) p) h)
          (λ n3. mark_small)))

  pub find_small : (s : Cursor) → Small s.place → FoundSmall (find_of white t book s)
  unfolding find_of
  find_small s h = by (look_at t s.at) refl
    where
      by : (x : Look) → look_at t s.at ≡ x → FoundSmall (on_look white t book s x)
      by (Some (c, w)) e = begins_small s.at (advanced s.place) (advanced_small h) c w e
      by None e = tt
