-- Where acting on a character leads: on, or to an end of the literal behind the character. Assumes nothing.
use Rattle.std.specs.declared.ops.ControlFlow.TheVariants.{Break, Continue}
use Rattle.std.specs.Prelude.{Err, None, Ok, Some}
use Prim.Native.Nat.{ℕ, ◌≤◌, ◌<◌}
use native.Mathlib.Omega.{arith}
use mathlib.Core.Bool.{Bool, false}
use mathlib.Core.List.{List}
use lib.Dec.{eqb, ltb}
use lib.ListN.{length}
use Rattle.basis.specs.Pick.{pick, both, isnt}
use Rattle.basis.proofs.Cases.{pick_cases}
use Rattle.position.specs.declared.Position.{Position}
use Rattle.position.specs.Place.{or_else, column_number}
use Rattle.chars.specs.Cursors.{cursor}
use Rattle.chars.specs.declared.cursor.Cursor.{Cursor}
use Rattle.classes.specs.Marks.{lf, cr, backslash}
use Rattle.literal.specs.Answers.{nothing, ending}
use Rattle.escape.specs.Escapes.{escaped_of}
use Rattle.escape.specs.declared.Escaped.{Escaped}
use Rattle.escape.specs.declared.Escaped.TheVariants as escaped
use Rattle.string_turn.specs.Kinds.{is_verbatim, is_continued}
use Rattle.string_turn.specs.Endings.{malformed_at}
use Rattle.string_turn.specs.Take.{scanning, is_empty, next_is}
use Rattle.string_turn.specs.Answer.{Pending, goes_with}
use Rattle.string_turn.specs.declared.take.Scanning.{Scanning}
use Rattle.string_turn.proofs.take.Lands.{LastLands}
use Rattle.string_turn.specs.Act.{close_of, line_feed_of, on_escaped, escape_of, add_of, plain_of, on_pending, other_of, match_of, on_closing, act_of}
use Rattle.string_turn.specs.Answer.{Acted}
use Rattle.string_turn.specs.Answer.{Closing}

-- a step that is over, from an offset
abbrev pub StepLands : List ℕ → ℕ → Acted → Type 0
StepLands t at (Continue (d, next, r)) = Unit {0}
StepLands t at (Break last) = LastLands t at last

module _ (white : ℕ → Bool) (t : List ℕ) (q : ℕ) (start : Position) (a : ℕ) where
  add_lands : (c at : ℕ) (s : Scanning) → StepLands t a (add_of white c at s)
  unfolding add_of
  add_lands c at s = pick_cases (StepLands t a) (both (white c) (ltb (column_number s.place) s.skip)) _ _ (λ y. tt) (λ y. tt)

  escape_lands : (c from at : ℕ) (s : Scanning) → StepLands t a (escape_of t q c from at s)
  unfolding escape_of
  escape_lands c from at s = by (escaped_of t c (cursor at s.place))
    where
      by : (x : Escaped)
          → StepLands t a (on_escaped x (λ d next. goes_with d next.at (scanning next.place s.first None s.skip)) (λ next. Break (Err (malformed_at q from next)))
          (pick (eqb c q) (goes_with q at (scanning s.place s.first None s.skip)) (Break (Err (malformed_at q from (cursor at s.place))))))
      by (escaped.Char d next) = tt
      by (escaped.Malformed next) = tt
      by escaped.Other = pick_cases (StepLands t a) (eqb c q) _ _ (λ y. tt) (λ y. tt)

  other_lands : (c at : ℕ) (s : Scanning) → StepLands t a (other_of white t q c at s)
  unfolding other_of plain_of
  other_lands c at s = by s.escape
    where
      by : (e : Pending) → StepLands t a (on_pending e (plain_of white q c at s) (λ from. escape_of t q c from at s))
      by None = pick_cases (StepLands t a) (both (isnt (is_verbatim q)) (eqb c backslash)) _ _ (λ y. tt) (λ y. add_lands c at s)
      by (Some from) = escape_lands c from at s

  match_lands : (c at : ℕ) (s : Scanning) → StepLands t a (match_of white t q start c at s)
  unfolding match_of line_feed_of
  match_lands c at s =
      pick_cases (StepLands t a) (both (eqb c cr) (next_is t at lf)) _ _ (λ y. tt)
      (λ n. pick_cases (StepLands t a) (eqb c lf) _ _
      (λ y. pick_cases (StepLands t a) (is_verbatim q) _ _ (λ z. tt)
      (λ z. pick_cases (StepLands t a) (both (is_continued q) (isnt (is_empty s.escape))) _ _ (λ u. tt) (λ u. tt)))
      (λ m. other_lands c at s))

  pub act_lands : (c : ℕ) (here : Cursor) (s : Scanning) → a < here.at → here.at ≤ length t → StepLands t a (act_of white t q start c here s)
  unfolding act_of
  act_lands c here s f l = by (close_of t q c here s.escape)
    where
      by : (x : Closing)
          → StepLands t a (on_closing x (Break (Ok (ending here s.first nothing false))) (λ to. match_of white t q start c to.at (scanning to.place (or_else s.first to.place) s.escape s.skip)))
      by None = (omega arith, λ h. l, λ z. f)
      by (Some to) = match_lands c to.at _
