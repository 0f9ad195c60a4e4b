-- What taking a character leads to is small. Assumes nothing.
use Rattle.lex_error.specs.declared.LexError.TheVariants.{UnterminatedString}
use Rattle.std.specs.declared.ops.ControlFlow.TheVariants.{Break, Continue}
use Rattle.std.specs.Prelude.{Err, None, Ok, Some}
use Prim.Native.Nat.{ℕ}
use mathlib.Core.List.{List}
use lib.Dec.{eqb}
use lib.ListN.{length}
use Rattle.basis.specs.Pick.{pick, both, either, isnt}
use Rattle.basis.proofs.Cases.{pick_cases}
use Rattle.position.specs.declared.Position.{Position}
use Rattle.position.specs.Place.{advanced}
use Rattle.position.proofs.Small.{Small, advanced_small}
use Rattle.fault.proofs.Small.{Tells, fault_tells}
use Rattle.chars.specs.Cursors.{cursor, get_next_of, eat_next_of}
use Rattle.chars.specs.declared.cursor.Cursor.{Cursor}
use Rattle.chars.specs.Takes.{Taken}
use Rattle.chars.proofs.Small.{In, TakenIn, got_in, ate_in}
use Rattle.classes.specs.Marks.{dollar, backslash, left_brace}
use Rattle.escape.specs.Escapes.{on_taken}
use Rattle.string_turn.specs.Kinds.{is_verbatim, is_continued, is_interpolated}
use Rattle.string_turn.specs.Endings.{unterminated_at}
use Rattle.string_turn.specs.Take.{is_empty, next_is, input_end, dollar_of, take_of}
use Rattle.string_turn.specs.declared.take.Scanning.{Scanning}
use Rattle.string_turn.specs.Answer.{Last, got_char}
use Rattle.string_turn.specs.Answer.{Got}

module _ (t : List ℕ) where
  abbrev pub LastSmall : Last → Type 0
  LastSmall (Ok e) = Small e.cursor.place
  LastSmall (Err f) = Tells (length t) f.fault

  abbrev pub GotSmall : Got → Type 0
  GotSmall (Continue (c, here)) = In t here
  GotSmall (Break last) = LastSmall last

  pub unterminated_small : (start : Position) (here : Cursor) → Small start → LastSmall (Err (unterminated_at start here))
  unfolding unterminated_at
  unterminated_small start here h = fault_tells (length t) UnterminatedString h

  pub end_small : (q : ℕ) (start : Position) (at : ℕ) (s : Scanning) → Small start → Small s.place → LastSmall (input_end q start at s)
  unfolding input_end
  end_small q start at s h k =
      pick_cases LastSmall (either (is_verbatim q) (both (is_continued q) (isnt (is_empty s.escape)))) _ _ (λ _. advanced_small k)
      (λ _. unterminated_small start (cursor at (advanced s.place)) h)

  dollar_small : (c : ℕ) (here : Cursor) (first : Position) → In t here → GotSmall (dollar_of t c here first)
  unfolding dollar_of
  dollar_small c here first h =
      pick_cases GotSmall (eqb c dollar) _ _
      (λ _. pick_cases GotSmall (next_is t here.at left_brace) _ _ (λ _. h.0) (λ _. h))
      (λ _. pick_cases GotSmall (eqb c backslash) _ _ (λ _. by (get_next_of t here) (got_in t here h.0)) (λ _. h))
    where
      by : (x : Taken) → TakenIn t x
          → GotSmall (on_taken x (λ d next. pick (both (eqb d dollar) (next_is t next.at left_brace)) (got_char dollar next) (got_char c here)) (got_char c here))
      by (Some (d, next)) k = pick_cases GotSmall (both (eqb d dollar) (next_is t next.at left_brace)) _ _ (λ _. k) (λ _. h)
      by None k = h

  pub take_small : (q : ℕ) (start : Position) (at : ℕ) (s : Scanning) → Small start → Small s.place → GotSmall (take_of t q start at s)
  unfolding take_of
  take_small q start at s h k = by (eat_next_of t (cursor at s.place)) (ate_in t (cursor at s.place) k)
    where
      by : (x : Taken) → TakenIn t x
          → GotSmall (on_taken x (λ c here. pick (both (is_interpolated q) (is_empty s.escape)) (dollar_of t c here s.first) (got_char c here)) (Break (input_end q start at s)))
      by (Some (c, here)) i = pick_cases GotSmall (both (is_interpolated q) (is_empty s.escape)) _ _ (λ _. dollar_small c here s.first i) (λ _. i)
      by None i = end_small q start at s h k
