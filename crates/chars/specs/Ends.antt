-- A stretch of characters that go on: those of a word, or those before the end of a line.
use Rattle.std.specs.Prelude.{Bool, List, [], ◌∷◌, eqb}
use Rattle.basis.specs.Types.{Text, Code, Offset}
use Rattle.basis.specs.Pick.{pick, isnt}
use Rattle.position.specs.Place.{advanced}
use Rattle.position.specs.declared.Position.{Position}
use Rattle.utf8.specs.Table.{Ch}
use Rattle.classes.specs.Class.{is_id_continue}
use Rattle.classes.specs.Marks.{lf}
use Rattle.chars.specs.Cursors.{cursor}
use Rattle.chars.specs.Scan.{Turn, go, stop, Rule, run_at}
use Rattle.chars.specs.declared.cursor.Cursor.{Cursor}
use Rattle.chars.specs.declared.stretch.Stretch.{Stretch}
use Rattle.chars.specs.declared.stretch.Stretch.TheVariants.{Word, Line}

-- what goes on: ASCII letters, digits and `_`, or all but LF
unfoldable pub goes_on_in : Stretch → Code → Bool
goes_on_in Word c = is_id_continue c
goes_on_in Line c = isnt (eqb c lf)

-- one turn: a character that goes on is taken, with its column; any other ends the stretch before it
abbrev pub stretch_turn : Stretch → Offset → List Ch → Position → Turn Position (Unit {0}) Cursor
stretch_turn what at [] p = stop (cursor at p)
stretch_turn what at (c ∷ cs) p = pick (goes_on_in what c.code) (go tt 0 (advanced p)) (stop (cursor at p))

-- the rule for the driver of every scanner
abbrev pub stretch_rule : Stretch → Rule Position (Unit {0}) Cursor
stretch_rule what = record { turn = stretch_turn what; end = λ at p. cursor at p; note = λ n r. r }

-- behind every character that goes on
unfoldable pub stretch_end : Stretch → Text → Cursor → Cursor
stretch_end what t s = run_at (stretch_rule what) t s.at s.place
