-- It is the token found, told as a number.
use mathlib.Core.Path.{ap, ◌∙◌}
use Rattle.c_words.specs.TokenNumbers.{lookup_as_number}
use Rattle.c_words.proofs.words.stew_lookup_symbol_from_syntax.Goals as goal

pub returns : goal.returns
returns c = c.lookup_as_number.ensures ∙ ap lookup_as_number c.lookup_symbol_from_syntax-found.ensures
