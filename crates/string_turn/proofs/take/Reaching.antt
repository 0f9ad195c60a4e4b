-- What taking a character keeps to, whatever the state: it goes on by whole characters, and no refusal of its own is 7 or 9. Assumes nothing.
use Rattle.std.specs.declared.ops.ControlFlow.TheVariants.{Break, Continue}
use Rattle.std.specs.Prelude.{Err, None, Ok, Some}
use Prim.Native.Nat.{ℕ}
use native.Mathlib.Omega.{arith}
use mathlib.Core.List.{List}
use mathlib.Core.Path.{◌≡◌, refl}
use lib.Dec.{eqb}
use Rattle.basis.specs.Pick.{pick, both, either, isnt}
use Rattle.basis.proofs.Cases.{pick_cases}
use Rattle.position.specs.declared.Position.{Position}
use Rattle.position.specs.Place.{advanced}
use Rattle.fault.specs.Faults.{Own}
use Rattle.chars.specs.Cursors.{cursor, get_next_of, eat_next_of}
use Rattle.chars.specs.declared.cursor.Cursor.{Cursor}
use Rattle.chars.specs.Takes.{Taken}
use Rattle.chars.proofs.Cursors.{got_took, ate_took}
use Rattle.chars.proofs.Reaches.{Further, further_on, took_reached, took_further}
use Rattle.classes.specs.Marks.{dollar, backslash, left_brace}
use Rattle.escape.specs.Escapes.{on_taken}
use Rattle.string_turn.specs.Kinds.{is_verbatim, is_continued, is_interpolated}
use Rattle.string_turn.specs.Endings.{unterminated_at}
use Rattle.string_turn.specs.Take.{is_empty, next_is, input_end, dollar_of, take_of}
use Rattle.string_turn.specs.declared.take.Scanning.{Scanning}
use Rattle.string_turn.specs.Answer.{Last, got_char}
use Rattle.string_turn.specs.Answer.{Got}

-- no limit and no room causes it
abbrev pub Fair : Last → Type 0
Fair (Ok e) = Unit {0}
Fair (Err f) = Own f.fault

-- a character taken from an offset
abbrev pub Gets : List ℕ → ℕ → Got → Type 0
Gets t a (Continue (c, here)) = Further t a here.at
Gets t a (Break last) = Fair last

pub unterminated_fair : (start : Position) (here : Cursor) → Fair (Err (unterminated_at start here))
unfolding unterminated_at
unterminated_fair start here = (λ e. omega arith, λ e. omega arith, λ e. omega arith)

pub end_fair : (q : ℕ) (start : Position) (at : ℕ) (s : Scanning) → Fair (input_end q start at s)
unfolding input_end
end_fair q start at s =
    pick_cases Fair (either (is_verbatim q) (both (is_continued q) (isnt (is_empty s.escape)))) _ _ (λ _. tt)
    (λ _. unterminated_fair start (cursor at (advanced s.place)))

module _ (t : List ℕ) where
  dollar_gets : (a c : ℕ) (here : Cursor) (first : Position) → Further t a here.at → Gets t a (dollar_of t c here first)
  unfolding dollar_of
  dollar_gets a c here first f =
      pick_cases (Gets t a) (eqb c dollar) _ _
      (λ _. pick_cases (Gets t a) (next_is t here.at left_brace) _ _ (λ _. tt) (λ _. f))
      (λ _. pick_cases (Gets t a) (eqb c backslash) _ _ (λ _. by (get_next_of t here) refl) (λ _. f))
    where
      by : (x : Taken) → get_next_of t here ≡ x
          → Gets t a (on_taken x (λ d next. pick (both (eqb d dollar) (next_is t next.at left_brace)) (got_char dollar next) (got_char c here)) (got_char c here))
      by (Some (d, next)) e =
          pick_cases (Gets t a) (both (eqb d dollar) (next_is t next.at left_brace)) _ _
          (λ _. further_on f (took_reached (got_took t here e)))
          (λ _. f)
      by None e = f

  pub take_gets : (q : ℕ) (start : Position) (at : ℕ) (s : Scanning) → Gets t at (take_of t q start at s)
  unfolding take_of
  take_gets q start at s = by (eat_next_of t (cursor at s.place)) refl
    where
      by : (x : Taken) → eat_next_of t (cursor at s.place) ≡ x
          → Gets t at (on_taken x (λ c here. pick (both (is_interpolated q) (is_empty s.escape)) (dollar_of t c here s.first) (got_char c here)) (Break (input_end q start at s)))
      by (Some (c, here)) e =
          let f : Further t at here.at = took_further (ate_took t (cursor at s.place) e) in
          pick_cases (Gets t at) (both (is_interpolated q) (is_empty s.escape)) _ _
          (λ _. dollar_gets at c here s.first f)
          (λ _. f)
      by None e = end_fair q start at s
