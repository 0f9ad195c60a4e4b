-- A text that is due, or what is found behind the white space.
use Prim.Native.Nat.{ℕ}
use native.Mathlib.Omega.{arith}
use mathlib.Core.Bool.{false}
use mathlib.Core.List.{List, []}
use mathlib.Core.Path.{◌≡◌, refl, sym, ap, ◌∙◌}
use Rattle.chars.specs.declared.cursor.Cursor.{Cursor}
use Rattle.white.specs.White.{is_white}
use Rattle.find.specs.Find.{find_of}
use Rattle.find.specs.declared.Found.{Found}
use Rattle.find.proofs.Ahead as Finds
use Rattle.reading.specs.declared.Bounds.{Bounds}
use Rattle.script.specs.Rules.{document01}
use Rattle.script.specs.States.{state}
use Rattle.script.specs.Steps.{on_found, step_of}
use Rattle.script.specs.Skips.{skipped}
use Rattle.script.specs.declared.State.{State}
use Rattle.script.proofs.Skips.{skipped_due, skipped_on}
use Rattle.turn.proofs.Stepping.{part_kept, white_turn, white_kept, wrong_turn, wrong_kept, end_kept, step_due, step_found, found_further}
use Rattle.turn.proofs.turn.Goals as goal
use Rattle.turn.proofs.turn.Goals.{After-find, Start}

-- the run before the turn
abbrev started : Start → List ℕ → State
started k braces = state k.args.cursor k.args.level braces k.args.due

-- what was found
module _ (k : After-find) where
  abbrev b : Bounds
  b = k.args.room.bounds

  abbrev n : ℕ
  n = k.args.room.listed

  abbrev used : ℕ
  used = k.args.room.used

  abbrev text : List ℕ
  text = k.args.text.now

  abbrev book : List ℕ
  book = k.args.book.now

  abbrev literals : List ℕ
  literals = k.args.literals.now

  abbrev here : Cursor
  here = k.skip-here.result

  is_found : find_of is_white text book here ≡ k.find.result
  is_found = sym k.find.ensures

  further : {x : Found} → k.find.result ≡ x → Finds.Ahead text here.at x
  further q = found_further document01 text book (state here 0 ([]) false) (is_found ∙ q)

  module _ (braces : List ℕ) where
    -- the run behind the white space
    abbrev s : State
    s = state here k.args.level braces false

    is-skipped : skipped document01 text (state k.args.cursor k.args.level braces k.args.due) ≡ s
    is-skipped = skipped_on document01 text _ k.if-due.false ∙ ap (λ (c : Cursor). state c k.args.level braces false) (sym k.skip-here.ensures)

    -- the step, by what was found
    stepped : {x : Found} → k.find.result ≡ x → step_of document01 text book s ≡ on_found document01 text s x
    stepped q = step_found document01 text book s refl (is_found ∙ q)

pub literal-requires : goal.literal-requires
literal-requires c =
    (c.requires.1, c.requires.2, c.requires.3)

pub returns-then-due : goal.returns-then-due
returns-then-due c =
    let y = c.if-due.true in
    λ braces.
    rw (skipped_due document01 _ (started (goal.at.returns-then-due c).Start braces) y, step_due document01 _ c.args.book.now (started (goal.at.returns-then-due c).Start braces) y) (c.literal.ensures c.args.cursor braces c.args.due)

pub part-requires : goal.part-requires
part-requires c =
    let f = further (goal.at.part-requires c).After-find c.in-Part.is in omega (arith, f.0)

pub literal-requires-in-Literal : goal.literal-requires-in-Literal
literal-requires-in-Literal c =
    ((further (goal.at.literal-requires-in-Literal c).After-find c.in-Literal.is).1, c.requires.2, c.requires.3)

pub returns-in-White : goal.returns-in-White
returns-in-White c =
    λ braces.
    rw (is-skipped (goal.at.returns-in-White c).After-find braces, stepped (goal.at.returns-in-White c).After-find braces c.in-White.is)
    (record { leads = (white_turn c.args.room.bounds c.args.room.listed c.args.room.used (s (goal.at.returns-in-White c).After-find braces) _, tt); literals = white_kept c.args.room.bounds c.args.room.listed c.args.room.used (s (goal.at.returns-in-White c).After-find braces) _ c.args.literals.now })

pub returns-in-Part : goal.returns-in-Part
returns-in-Part c =
    λ braces.
    rw (is-skipped (goal.at.returns-in-Part c).After-find braces, stepped (goal.at.returns-in-Part c).After-find braces c.in-Part.is)
    (record { leads = c.part.ensures c.args.level braces false; literals = part_kept c.args.room.bounds c.args.room.listed c.args.room.used (s (goal.at.returns-in-Part c).After-find braces) _ _ _ c.args.literals.now })

pub returns-in-Literal : goal.returns-in-Literal
returns-in-Literal c =
    λ braces.
    rw (is-skipped (goal.at.returns-in-Literal c).After-find braces, stepped (goal.at.returns-in-Literal c).After-find braces c.in-Literal.is) (c.literal-in-Literal.ensures c.skip-here.result braces false)

pub returns-in-Wrong : goal.returns-in-Wrong
returns-in-Wrong c =
    λ braces.
    rw (is-skipped (goal.at.returns-in-Wrong c).After-find braces, stepped (goal.at.returns-in-Wrong c).After-find braces c.in-Wrong.is, c.over.ensures)
    (record { leads = (wrong_turn c.args.room.bounds c.args.room.listed c.args.room.used (s (goal.at.returns-in-Wrong c).After-find braces) _, tt); literals = wrong_kept c.args.room.bounds c.args.room.listed c.args.room.used (s (goal.at.returns-in-Wrong c).After-find braces) _ c.args.literals.now })

pub returns-in-End : goal.returns-in-End
returns-in-End c =
    λ braces.
    rw (is-skipped (goal.at.returns-in-End c).After-find braces, stepped (goal.at.returns-in-End c).After-find braces c.in-End.is) (record { leads = c.end.ensures braces; literals = end_kept c.args.room.bounds c.args.room.listed c.args.room.used (s (goal.at.returns-in-End c).After-find braces) c.args.literals.now })
