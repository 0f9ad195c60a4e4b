-- What the functions of one turn answer.
use Rattle.std.specs.Prelude.{ℕ, ◌+◌, ◌≤◌, ◌<◌, None}
use Rattle.std.specs.declared.ops.ControlFlow.{ControlFlow}
use Rattle.std.specs.declared.ops.ControlFlow.TheVariants.{Break, Continue}
use Rattle.basis.specs.Types.{Text, Code}
use Rattle.basis.specs.Pick.{pick}
use Rattle.utf8.specs.Table.{chars_at}
use Rattle.chars.specs.Cursors.{cursor, eat_next_of}
use Rattle.chars.specs.Scan.{follows, Move, on, over, move_at}
use Rattle.chars.specs.declared.cursor.Cursor.{Cursor}
use Rattle.chars.specs.Takes.{Taken}
use Rattle.comment.specs.Block.{comment_at, Inside, inside, comment_rule}
use Rattle.comment.specs.declared.scan.Comment.{Comment}

-- the next character taken if it is c
unfoldable pub eat_if_of : Text → Cursor → Code → Taken
eat_if_of t s c = pick (follows c (chars_at t s.at)) (eat_next_of t s) None

-- the rule's move from where the code stands: the level that is open, and the cursor
unfoldable pub move_of : Text → ℕ → Cursor → Move Inside (Unit {0}) Comment
move_of t level from = move_at comment_rule t from.at (inside level from.place)

-- one turn as the code says it: it goes on at a cursor, with so many levels open, or it is over
abbrev pub Led : Type 0
Led = ControlFlow Comment (ℕ × Cursor)

-- it goes on
abbrev pub led_on : ℕ → Cursor → Led
led_on n c = Continue (n, c)

-- it is over
abbrev pub led_over : ℕ → Cursor → Led
led_over n c = Break (comment_at n c)

-- a move as the code says it
abbrev pub as_led : Move Inside (Unit {0}) Comment → Led
as_led (on n at s) = led_on s.level (cursor at s.place)
as_led (over c) = Break c

-- what a turn in a text of n bytes needs: the level cannot wrap, and the cursor is within the text
pub record LevelFits (n level : ℕ) (from : Cursor) : Type 0 where
  pub low : 1 ≤ level
  pub high : level ≤ 65535 + from.at
  pub within : from.at ≤ n

-- a turn that goes on leaves it so, further on
abbrev pub TurnFits : ℕ → Cursor → Led → Type 0
TurnFits n from (Continue (level, next)) = LevelFits n level next × (from.at < next.at)
TurnFits n from (Break c) = Unit {0}
