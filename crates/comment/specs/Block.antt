-- The block comment: document 01, "Level given; `/*` adds one, `*/` takes one, each pair eaten whole. At the end of input the open level is answered", and the Rust's `scan_block_comment`.
use Rattle.lex_error.specs.declared.LexError.TheVariants.{BadArgument}
use Rattle.lex_error.specs.Numbers.{Asked, no_refusal, asked_then, on_asked, number_of}
use Rattle.std.specs.Prelude.{ℕ, ◌+◌, ◌-◌, List, [], ◌∷◌, eqb, Err, Ok}
use Rattle.basis.specs.Types.{Text, Offset}
use Rattle.basis.specs.Pick.{pick, both}
use Rattle.position.specs.declared.Position.{Position}
use Rattle.position.specs.Place.{none, on_line, advanced, lined}
use Rattle.utf8.specs.Table.{Ch, ◌‥◌, within}
use Rattle.classes.specs.Marks.{lf, star, slash}
use Rattle.chars.specs.Cursors.{cursor}
use Rattle.door.specs.Door.{door_of}
use Rattle.chars.specs.Scan.{Turn, go, stop, Rule, follows, widths, run_at}
use Rattle.chars.specs.declared.cursor.Cursor.{Cursor}
use Rattle.fault.specs.Faults.{fault}
use Rattle.comment.specs.declared.scan.Comment.{Comment}
use Rattle.comment.specs.Answer.{Commented}

-- the level that is open at a cursor
abbrev pub comment_at : ℕ → Cursor → Comment
comment_at n c = record { level = n; cursor = c }

-- where a scan stands between two turns: the level that is open, and the place
pub record Inside : Type 0 where
  pub level : ℕ
  pub place : Position

abbrev pub inside : ℕ → Position → Inside
inside n p = record { level = n; place = p }

-- the answer where the scan is over
abbrev pub comment_ended : Offset → Inside → Comment
comment_ended at s = comment_at s.level (cursor at s.place)

-- one turn. Returns of the whole scan, from 1:1:
--
--   level given | text        | level | offset | position
--   1           | a*/b        | 0     | 3      | 1:4
--   1           | /*/ */*/x   | 0     | 8      | 1:9         `/*/` opens a level, and closes none
--   1           | /*          | 2     | 2      | 1:3
--   1           | **/         | 0     | 3      | 1:4
--   1           | /           | 1     | 1      | 1:2
--   1           | LF é*/      | 0     | 5      | 2:3
--   2           | */          | 1     | 2      | 1:3
--   65535       | /*          | 65536 | 2      | 1:3
--   1           |             | 1     | 0      | 1:1
unfoldable pub comment_turn : Offset → List Ch → Inside → Turn Inside (Unit {0}) Comment
comment_turn at [] s = stop (comment_ended at s)
comment_turn at (c ∷ cs) s =
    let one = advanced s.place in
    let two = advanced one in
    pick (both (eqb c.code slash) (follows star cs)) (go tt 1 (inside (s.level + 1) two))
    (pick (both (eqb c.code star) (follows slash cs))
    (pick (eqb s.level 1) (stop (comment_ended (at + c.width + widths 1 cs) (inside 0 two))) (go tt 1 (inside (s.level - 1) two)))
    (pick (eqb c.code lf) (go tt 0 (inside s.level (lined one))) (go tt 0 (inside s.level one))))

-- the rule: at the end of the text the open level is answered
abbrev pub comment_rule : Rule Inside (Unit {0}) Comment
comment_rule = record { turn = comment_turn; end = comment_ended; note = λ n r. r }

-- the scan of a text from a cursor, with so many levels open
unfoldable pub comment_of : Text → Cursor → ℕ → Comment
comment_of t start level = run_at comment_rule t start.at (inside level start.place)

-- what the arguments refuse: 2, 1, 3 at the door; 3 for a place on no line, and for a level outside 1..65,535
unfoldable pub comment_refuses : Text → Offset → Position → ℕ → Asked
comment_refuses t at p level = asked_then (door_of t at) (pick (both (on_line p) (within (1 ‥ 65535) level)) no_refusal (Err BadArgument))

-- the answer of a scan
unfoldable pub scan_block_comment_of : Text → Offset → Position → ℕ → Commented
scan_block_comment_of t at p level =
    on_asked (comment_refuses t at p level) (Ok (comment_of t (cursor at p) level)) (λ e. Err (fault e p))

-- what a scan tells: the refusal's number, 0 for none, and the place reported with it; the level still open; the offset and position reached
pub record Told : Type 0 where
  pub number : ℕ
  pub place : Position
  pub level : ℕ
  pub cursor : Cursor

-- the values of each case of an answer; a refused scan tells the level, the offset and the position that it was given
unfoldable pub told : ℕ → Cursor → Commented → Told
told level start (Ok c) = record { number = 0; place = none; level = c.level; cursor = c.cursor }
told level start (Err f) = record { number = number_of f.error; place = f.place; level = level; cursor = start }
