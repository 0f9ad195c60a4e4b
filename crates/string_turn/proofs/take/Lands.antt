-- Where taking a character leads: behind the offset, or to an end of the literal. Assumes nothing.
use Rattle.std.specs.declared.ops.ControlFlow.TheVariants.{Break, Continue}
use Rattle.std.specs.Prelude.{Err, None, Ok, Some}
use Prim.Native.Nat.{ℕ, ◌≤◌, ◌<◌}
use native.Mathlib.Omega.{arith}
use mathlib.Core.List.{List}
use mathlib.Core.Path.{◌≡◌, refl}
use lib.Dec.{eqb}
use lib.ListN.{length}
use Rattle.basis.specs.Pick.{pick, both, either, isnt}
use Rattle.basis.proofs.Cases.{pick_cases}
use Rattle.position.specs.declared.Position.{Position}
use Rattle.position.specs.Place.{advanced}
use Rattle.chars.specs.Cursors.{cursor, get_next_of, eat_next_of}
use Rattle.chars.specs.declared.cursor.Cursor.{Cursor}
use Rattle.chars.specs.Takes.{Taken}
use Rattle.chars.proofs.Cursors.{got_took, ate_took, further}
use Rattle.literal.specs.Trace.{good}
use Rattle.literal.proofs.Lands.{Lands}
use Rattle.classes.specs.Marks.{dollar, backslash, left_brace}
use Rattle.escape.specs.Escapes.{on_taken}
use Rattle.string_turn.specs.Kinds.{is_verbatim, is_continued, is_interpolated}
use Rattle.string_turn.specs.Take.{is_empty, next_is, input_end, dollar_of, take_of}
use Rattle.string_turn.specs.declared.take.Scanning.{Scanning}
use Rattle.string_turn.specs.Answer.{Last, got_char}
use Rattle.string_turn.specs.Answer.{Got}

-- how a literal is over, from an offset
abbrev pub LastLands : List ℕ → ℕ → Last → Type 0
LastLands t at (Ok e) = Lands t at 0 0 (good e)
LastLands t at (Err f) = Unit {0}

-- a character that was taken is behind the offset
abbrev pub GotLands : List ℕ → ℕ → Got → Type 0
GotLands t at (Continue (c, here)) = (at < here.at) × (here.at ≤ length t)
GotLands t at (Break last) = LastLands t at last

module _ (t : List ℕ) (q : ℕ) (start : Position) where
  pub end_lands : (at : ℕ) (s : Scanning) → LastLands t at (input_end q start at s)
  unfolding input_end
  end_lands at s = pick_cases (LastLands t at) (either (is_verbatim q) (both (is_continued q) (isnt (is_empty s.escape)))) _ _ (λ y. (omega arith, λ h. h, λ z. absurd (omega arith))) (λ n. tt)

  dollar_lands : (at c : ℕ) (here : Cursor) (first : Position) → at < here.at → here.at ≤ length t → GotLands t at (dollar_of t c here first)
  unfolding dollar_of
  dollar_lands at c here first f l =
      pick_cases (GotLands t at) (eqb c dollar) _ _
      (λ y. pick_cases (GotLands t at) (next_is t here.at left_brace) _ _ (λ z. (omega arith, λ h. l, λ z. f)) (λ z. (f, l)))
      (λ n. pick_cases (GotLands t at) (eqb c backslash) _ _ (λ y. by (get_next_of t here) refl) (λ y. (f, l)))
    where
      by : (x : Taken) → get_next_of t here ≡ x
          → GotLands t at (on_taken x (λ d next. pick (both (eqb d dollar) (next_is t next.at left_brace)) (got_char dollar next) (got_char c here)) (got_char c here))
      by (Some (d, next)) e =
          let k = further t here.at here.place (got_took t here e) in
          pick_cases (GotLands t at) (both (eqb d dollar) (next_is t next.at left_brace)) _ _ (λ y. (omega (arith, k.0), k.1)) (λ y. (f, l))
      by None e = (f, l)

  pub take_lands : (at : ℕ) (s : Scanning) → GotLands t at (take_of t q start at s)
  unfolding take_of
  take_lands at s = by (eat_next_of t (cursor at s.place)) refl
    where
      by : (x : Taken) → eat_next_of t (cursor at s.place) ≡ x
          → GotLands t at (on_taken x (λ c here. pick (both (is_interpolated q) (is_empty s.escape)) (dollar_of t c here s.first) (got_char c here)) (Break (input_end q start at s)))
      by (Some (c, here)) e =
          let k = further t at (advanced s.place) (ate_took t (cursor at s.place) e) in
          pick_cases (GotLands t at) (both (is_interpolated q) (is_empty s.escape)) _ _ (λ y. dollar_lands at c here s.first k.0 k.1) (λ y. k)
      by None e = end_lands at s
