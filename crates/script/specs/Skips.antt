-- Where a run stands behind the white space that it skips at once; a text that is due goes on from where it is.
use Rattle.basis.specs.Types.{Text}
use Rattle.basis.specs.Pick.{pick}
use Rattle.find.specs.Skip.{skip_of}
use Rattle.script.specs.declared.State.{State}
use Rattle.script.specs.Rules.{Rules}
use Rattle.script.specs.States.{moved_to}

unfoldable pub skipped : Rules → Text → State → State
skipped rules t s = pick s.due s (moved_to (skip_of rules.white t s.cursor) s)
