-- The first character is taken whichever it is; what goes on behind it is passed; what stands between is classified.
use Rattle.chars.specs.Takes.{char_taken}
use Prim.Native.Nat.{ℕ, ◌≤◌}
use native.Mathlib.Omega.{arith}
use mathlib.Core.List.{List}
use mathlib.Core.Path.{◌≡◌, sym, ap, ◌∙◌}
use lib.ListN.{length}
use Rattle.chars.specs.Cursors.{get_next_of}
use Rattle.chars.specs.declared.cursor.Cursor.{Cursor}
use Rattle.identifier.specs.Identifiers.{identified_as, spanned, identify_of, class_of, text_between}
use Rattle.identifier.proofs.scan.Answers.{nothing_there, begins_here, first_within}
use Rattle.identifier.proofs.scan.identify.Goals as goal
use Rattle.identifier.proofs.scan.identify.Goals.{After-end_of-cursor}

-- the first character, and the end
module _ (k : After-end_of-cursor) where
  abbrev text : List ℕ
  text = k.args.text.now

  abbrev book : List ℕ
  book = k.args.book.now

  abbrev start : Cursor
  start = k.args.start

  abbrev first : Cursor
  first = k.in-Some.first

  got : get_next_of text start ≡ char_taken k.in-Some.field-0-0 first
  got = sym k.get_next.ensures ∙ k.in-Some.is

  abbrev end : Cursor
  end = k.end_of-cursor.result

  room : (start.at ≤ end.at) × (end.at ≤ length text)
  room =
      let f = first_within text book start got in
      (omega (arith, f.0, k.end_of-cursor.ensures.at_le_at.0), k.end_of-cursor.ensures.at_le_at.1 f.1)

  -- the answer, by the class of what stands between
  whole : identify_of text book start ≡ identified_as start end (class_of book (text_between text start end))
  unfolding spanned
  whole = begins_here text book start got ∙ ap (spanned text book start) (sym k.end_of-cursor.ensures.value)

pub returns-in_default : goal.returns-in_default
returns-in_default c =
    rw c.at.ensures (sym (nothing_there _ _ _ (sym c.get_next.ensures ∙ c.in_default.is)))

pub slice_bounds-class_of-count : goal.slice_bounds-class_of-count
slice_bounds-class_of-count c = omega (arith, room (goal.at.slice_bounds-class_of-count c).After-end_of-cursor)

pub slice_bounds-class_of-start : goal.slice_bounds-class_of-start
slice_bounds-class_of-start c = omega (arith, room (goal.at.slice_bounds-class_of-start c).After-end_of-cursor)

pub slice_bounds-class_of-end : goal.slice_bounds-class_of-end
slice_bounds-class_of-end c = omega (arith, room (goal.at.slice_bounds-class_of-end c).After-end_of-cursor)

pub overflow_sub-part : goal.overflow_sub-part
overflow_sub-part c = omega (arith, room (goal.at.overflow_sub-part c).After-end_of-cursor)

pub returns-in-Some-class_of : goal.returns-in-Some-class_of
unfolding identified_as
returns-in-Some-class_of c =
    sym (whole (goal.at.returns-in-Some-class_of c).After-end_of-cursor ∙ ap (identified_as c.args.start c.end_of-cursor.result) (sym c.class_of.ensures ∙ c.in-Some-class_of.is))

pub returns-in-None : goal.returns-in-None
unfolding identified_as
returns-in-None c =
    rw c.about.ensures (sym (whole (goal.at.returns-in-None c).After-end_of-cursor ∙ ap (identified_as c.args.start c.end_of-cursor.result) (sym c.class_of.ensures ∙ c.in-None.is)))
