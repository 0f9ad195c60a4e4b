-- What a scan of a block comment answers.
use Rattle.std.specs.Prelude.{Result}
use Rattle.fault.specs.declared.Fault.{Fault}
use Rattle.comment.specs.declared.scan.Comment.{Comment}

-- where it ended, or a refusal
abbrev pub Commented : Type 0
Commented = Result Comment Fault
