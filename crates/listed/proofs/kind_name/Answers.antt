-- Each arm has the word of its number, and the last one `-` for every other.
use Rattle.basis.specs.Words.{word}
use Rattle.listed.proofs.Lines.{kind_none}
use mathlib.Core.Path.{sym}
use Rattle.listed.proofs.kind_name.Goals as goal

pub returns-in_default : goal.returns-in_default
unfolding word
returns-in_default c = sym (kind_none _ c.in_default.in_default-own.rest)
