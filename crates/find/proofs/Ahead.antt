-- What is found ends further on, within the script; and no limit and no room makes a script wrong. Assumes nothing.
use Rattle.std.specs.Prelude.{Err, None, Ok, Some}
use Prim.Native.Nat.{ℕ, ◌+◌, ◌≤◌, ◌<◌}
use native.Mathlib.Omega.{arith}
use mathlib.Core.Bool.{Bool}
use mathlib.Core.List.{List}
use mathlib.Core.Path.{◌≡◌, refl}
use lib.Dec.{eqb}
use lib.ListN.{length}
use Rattle.basis.proofs.Cases.{pick_cases}
use Rattle.position.specs.declared.Position.{Position}
use Rattle.position.specs.Place.{advanced}
use Rattle.utf8.specs.Table.{look_at}
use Rattle.utf8.specs.Looks.{Look, char_found}
use Rattle.utf8.proofs.Laws.{at_width}
use Rattle.classes.specs.Class.{is_numeric_digit}
use Rattle.chars.specs.Cursors.{cursor}
use Rattle.chars.specs.declared.cursor.Cursor.{Cursor}
use Rattle.fault.specs.Faults.{Own}
use Rattle.chars.specs.Ends.{stretch_end}
use Rattle.chars.specs.declared.stretch.Stretch.TheVariants as Stretch
use Rattle.chars.proofs.stretch.Ends.{end_reached}
use Rattle.identifier.specs.Identifiers.{identify_of}
use Rattle.identifier.specs.Answer.{Identified}
use Rattle.identifier.proofs.scan.Ends as Word
use Rattle.identifier.proofs.scan.Ends.{identified_ahead}
use Rattle.symbols.specs.Symbols.{longest_symbol_of}
use Rattle.symbols.specs.Found.{Longest}
use Rattle.symbols.proofs.Longer.{offset_within}
use Rattle.comment.specs.Block.{comment_of}
use Rattle.comment.proofs.scan.Ends.{comment_reached}
use Rattle.find.specs.Find.{white_of, word_of, number_run, symbol_of, line_comment, block_comment, sign_at, on_sign, mark_of, begins_word, begins_of, on_look, find_of}
use Rattle.find.specs.declared.Sign.{Sign}
use Rattle.find.specs.declared.Sign.TheVariants as sign
use Rattle.find.specs.declared.Found.{Found}
use Rattle.find.specs.declared.Found.TheVariants.{White, Part, Literal, Wrong, End}
use Rattle.find.proofs.Begins.{Paired, sign_paired}

-- behind an offset, within the script
abbrev pub Further : List ℕ → ℕ → Cursor → Type 0
Further t at c = (at < c.at) × (c.at ≤ length t)

abbrev pub Ahead : List ℕ → ℕ → Found → Type 0
Ahead t at (White c) = Further t at c
Ahead t at (Part c k w) = Further t at c
Ahead t at (Literal c o) = Further t at c
Ahead t at (Wrong f) = Own f
Ahead t at End = Unit {0}

symbol_ahead : (t : List ℕ) (at w : ℕ) (p : Position) → Ahead t at (symbol_of at w p (longest_symbol_of t at))
unfolding symbol_of
symbol_ahead t at w p = by (longest_symbol_of t at) refl
  where
    by : (x : Longest) → longest_symbol_of t at ≡ x → Ahead t at (symbol_of at w p x)
    by (Some (k, n)) q = let r = offset_within t at k n q in (omega (arith, r.0), r.1)
    by None q = (λ z. omega arith, λ z. omega arith, λ z. omega arith)

wording : (t book : List ℕ) (at : ℕ) (p : Position) (x : Identified) → Word.Ahead t book (cursor at p) x → Ahead t at (word_of x)
unfolding word_of
wording t book at p (Ok w) h = h
wording t book at p (Err (f, e)) h = h

module _ (white : ℕ → Bool) (t book : List ℕ) (at c w : ℕ) (p : Position) (e : look_at t at ≡ char_found c w) where
  wide : (1 ≤ w) × (at + w ≤ length t) × (w ≤ 4)
  wide = at_width t at e

  white_ahead : Ahead t at (white_of c (cursor (at + w) p))
  unfolding white_of
  white_ahead = pick_cases (λ (x : Cursor). Further t at x) (eqb c 0x0A) _ _ (λ y. (omega (arith, wide), wide.1)) (λ n. (omega (arith, wide), wide.1))

  -- a stretch behind the first character
  stretch_ahead : Further t at (stretch_end Stretch.Word t (cursor (at + w) p))
  stretch_ahead =
      let r = end_reached Stretch.Word t (cursor (at + w) p) in
      (omega (arith, wide, r.0), r.1 wide.1)

  word_ahead : Ahead t at (word_of (identify_of t book (cursor at p)))
  word_ahead = wording t book at p (identify_of t book (cursor at p)) (identified_ahead t book (cursor at p))

  line_ahead : at + 2 ≤ length t → Ahead t at (line_comment t (cursor (at + 2) (advanced p)))
  unfolding line_comment
  line_ahead h = let r = end_reached Stretch.Line t (cursor (at + 2) (advanced p)) in (omega (arith, r.0), r.1 h)

  block_ahead : at + 2 ≤ length t → Ahead t at (block_comment t (cursor (at + 2) (advanced p)))
  unfolding block_comment
  block_ahead h =
      let from = cursor (at + 2) (advanced p) in
      let r = comment_reached t from 1 in
      pick_cases (Ahead t at) (eqb (comment_of t from 1).level 0) _ _ (λ y. (omega (arith, r.forward), r.within h)) (λ n. (λ q. omega arith, λ q. omega arith, λ q. omega arith))

  mark_ahead : Ahead t at (mark_of t at p c w)
  unfolding mark_of
  mark_ahead = by (sign_at t at c) (sign_paired t at c)
    where
      by : (m : Sign) → Paired t at m → Ahead t at (on_sign t at p w m)
      by (sign.Literal o) h = (omega (arith, wide), wide.1)
      by sign.Line h = line_ahead h
      by sign.Block h = block_ahead h
      by sign.Symbol h = symbol_ahead t at w p

  begins_ahead : Ahead t at (begins_of white t book at p c w)
  unfolding begins_of number_run
  begins_ahead =
      pick_cases (Ahead t at) (white c) _ _ (λ y. white_ahead)
      (λ n1. pick_cases (Ahead t at) (begins_word c) _ _ (λ y. word_ahead)
      (λ n2. pick_cases (Ahead t at) (is_numeric_digit c) _ _ (λ y. stretch_ahead)
      (λ n3. mark_ahead)))

pub find_ahead : (white : ℕ → Bool) (t book : List ℕ) (s : Cursor) → Ahead t s.at (find_of white t book s)
unfolding find_of
find_ahead white t book s = by (look_at t s.at) refl
  where
    by : (x : Look) → look_at t s.at ≡ x → Ahead t s.at (on_look white t book s x)
    by (Some (c, w)) e = begins_ahead white t book s.at c w (advanced s.place) e
    by None e = tt
