-- At the door of a scan: document 01, "Order: 2, 1, 3".
use Rattle.std.specs.Prelude.{Err, ltb, length}
use Rattle.lex_error.specs.declared.LexError.TheVariants.{NotUtf8, TextTooLong, BadArgument}
use Rattle.lex_error.specs.Numbers.{Asked, no_refusal, asked_then}
use Rattle.basis.specs.Types.{Text, Offset}
use Rattle.basis.specs.Pick.{pick}
use Rattle.utf8.specs.Table.{chars, well, edge}

-- what a text refuses: 2 if it is too long, 1 if it is not UTF-8
unfoldable pub text_of : Text → Asked
text_of t = pick (ltb 16777216 (length t)) (Err TextTooLong) (pick (well t) no_refusal (Err NotUtf8))

-- what a text and an offset refuse: 2, 1; 3 if the offset is past the end or inside a character
unfoldable pub door_of : Text → Offset → Asked
door_of t at = asked_then (text_of t) (pick (edge (chars t) at) no_refusal (Err BadArgument))
