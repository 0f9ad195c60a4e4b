-- How the scan of a string literal is over under a limit: document 01, "The limit is checked again at a good end. .. 6 and 7 keep it, but a 7 found at `${` comes with it cleared".
use Rattle.std.specs.Prelude.{Err, Ok}
use Rattle.position.specs.declared.Position.{Position}
use Rattle.literal.specs.Answers.{too_long}
use Rattle.literal.specs.Trace.{Trace, ends, fails, checks}
use Rattle.string_turn.specs.Answer.{Last}

-- a good end stands behind one more test of the limit, with the record as it is there
unfoldable pub last_of : Position → Last → Trace
last_of start (Ok e) = checks (too_long start e.cursor e.on_record) (ends e)
last_of start (Err f) = fails f
