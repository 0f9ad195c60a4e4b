-- What a scan of a literal answers.
use Rattle.std.specs.Prelude.{ℕ, Result, Ok, Err}
use Rattle.literal.specs.declared.End.{End}
use Rattle.literal.specs.declared.Refusal.{Refusal}

-- the end and the body's length in bytes, or a refusal
abbrev pub Scanned : Type 0
Scanned = Result (End × ℕ) Refusal

-- an end, with a body of n bytes
abbrev pub accepted_as : End → ℕ → Scanned
accepted_as e n = Ok (e, n)

-- a refusal
abbrev pub refused_with : Refusal → Scanned
refused_with f = Err f
