-- How a write into lent memory went.
use Rattle.std.specs.Prelude.{ℕ, Result}
use Rattle.lex_error.specs.declared.LexError.{LexError}

-- how many bytes were written, or the refusal
abbrev pub Written : Type 0
Written = Result ℕ LexError
