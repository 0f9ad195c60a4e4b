-- Each way out is one law of the turn; a pair that was eaten, and what is behind it, is told by `eat_if`.
use Rattle.chars.specs.Takes.{char_taken}
use Prim.Native.Nat.{ℕ, ◌≤◌, ◌<◌}
use native.Mathlib.Omega.{arith}
use mathlib.Core.List.{List}
use mathlib.Core.Path.{◌≡◌, sym, ◌∙◌}
use lib.ListN.{length}
use Rattle.chars.specs.Cursors.{eat_next_of}
use Rattle.chars.specs.declared.cursor.Cursor.{Cursor}
use Rattle.comment.specs.Step.{eat_if_of, LevelFits}
use Rattle.comment.proofs.scan.Turns.{further_on, still_fine, twice_on, ends, slash, opens, star, closes_last, closes, new_line, plain}
use Rattle.comment.proofs.scan.turn.Goals as goal
use Rattle.comment.proofs.scan.turn.Goals.{In-Some, In-Some-eat_if, In-Some-eat_if-2}

-- the character that was taken
module _ (k : In-Some) where
  abbrev text : List ℕ
  text = k.args.text.now

  abbrev from : Cursor
  from = k.args.from

  abbrev next : Cursor
  next = k.in-Some.next

  ate : eat_next_of text from ≡ char_taken k.in-Some.c next
  ate = sym k.eat_next_and_advance.ensures ∙ k.in-Some.is

  moved : (from.at < next.at) × (next.at ≤ length text)
  moved = further_on text from ate

  -- where a turn may go
  fine : LevelFits (length text) k.args.level from
  fine = k.requires

-- the pair that was eaten: it opens
module _ (k : In-Some-eat_if) where
  opened : eat_if_of k.args.text.now k.in-Some.next 0x2A ≡ char_taken k.in-Some-eat_if.field-0-0 k.in-Some-eat_if.after
  opened = sym k.eat_if.ensures ∙ k.in-Some-eat_if.is

-- or it closes
module _ (k : In-Some-eat_if-2) where
  closed : eat_if_of k.args.text.now k.in-Some.next 0x2F ≡ char_taken k.in-Some-eat_if-2.field-0-0 k.in-Some-eat_if-2.after
  closed = sym k.eat_if-in-42.ensures ∙ k.in-Some-eat_if-2.is

pub returns-in_default : goal.returns-in_default
returns-in_default c = record {
  value = ends _ _ _ (sym c.eat_next_and_advance.ensures ∙ c.in_default.is);
  turn_fits = tt;
}

pub returns-in-Some-eat_if : goal.returns-in-Some-eat_if
returns-in-Some-eat_if c = record {
  value = opens _ _ _ (ate (goal.at.returns-in-Some-eat_if c).In-Some) c.in-47.is (opened c);
  turn_fits = still_fine _ _ _ (fine (goal.at.returns-in-Some-eat_if c).In-Some) (twice_on _ _ _ 0x2A (moved (goal.at.returns-in-Some-eat_if c).In-Some) (opened c)) (omega arith) (omega arith);
}

pub returns-in-None : goal.returns-in-None
returns-in-None c = record {
  value = slash _ _ _ (ate (goal.at.returns-in-None c).In-Some) c.in-47.is (sym c.eat_if.ensures ∙ c.in-None.is);
  turn_fits = still_fine _ _ _ (fine (goal.at.returns-in-None c).In-Some) (moved (goal.at.returns-in-None c).In-Some) (fine (goal.at.returns-in-None c).In-Some).low (omega arith);
}

pub returns-in-Some-eat_if-2 : goal.returns-in-Some-eat_if-2
returns-in-Some-eat_if-2 c = record {
  value = closes_last _ _ _ (ate (goal.at.returns-in-Some-eat_if-2 c).In-Some) c.in-42.is (closed (goal.at.returns-in-Some-eat_if-2 c).In-Some-eat_if-2) c.if-level-eq1.true;
  turn_fits = tt;
}

pub returns-in-Some-2 : goal.returns-in-Some-2
returns-in-Some-2 c = record {
  value = closes _ _ _ (ate (goal.at.returns-in-Some-2 c).In-Some) c.in-42.is (closed (goal.at.returns-in-Some-2 c).In-Some-eat_if-2) c.if-level-eq1.false;
  turn_fits = still_fine _ _ _ (fine (goal.at.returns-in-Some-2 c).In-Some) (twice_on _ _ _ 0x2F (moved (goal.at.returns-in-Some-2 c).In-Some) (closed (goal.at.returns-in-Some-2 c).In-Some-eat_if-2)) (omega (arith, fine (goal.at.returns-in-Some-2 c).In-Some, c.if-level-eq1.false)) (omega arith);
}

pub returns-in-None-eat_if : goal.returns-in-None-eat_if
returns-in-None-eat_if c = record {
  value = star _ _ _ (ate (goal.at.returns-in-None-eat_if c).In-Some) c.in-42.is (sym c.eat_if-in-42.ensures ∙ c.in-None-eat_if.is);
  turn_fits = still_fine _ _ _ (fine (goal.at.returns-in-None-eat_if c).In-Some) (moved (goal.at.returns-in-None-eat_if c).In-Some) (fine (goal.at.returns-in-None-eat_if c).In-Some).low (omega arith);
}

pub returns-in-10 : goal.returns-in-10
returns-in-10 c = record {
  value = rw c.lined-place.ensures (new_line _ _ _ (ate (goal.at.returns-in-10 c).In-Some) c.in-10.is);
  turn_fits = still_fine _ _ _ (fine (goal.at.returns-in-10 c).In-Some) (moved (goal.at.returns-in-10 c).In-Some) (fine (goal.at.returns-in-10 c).In-Some).low (omega arith);
}

pub returns-in_default-c : goal.returns-in_default-c
returns-in_default-c c = record {
  value = plain _ _ _ (ate (goal.at.returns-in_default-c c).In-Some) (λ e. omega arith) (λ e. omega arith) (λ e. omega arith);
  turn_fits = still_fine _ _ _ (fine (goal.at.returns-in_default-c c).In-Some) (moved (goal.at.returns-in_default-c c).In-Some) (fine (goal.at.returns-in_default-c c).In-Some).low (omega arith);
}
