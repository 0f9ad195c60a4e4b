-- What a lookup of a token finds.
use Rattle.std.specs.Prelude.{ℕ, Option}

-- a token, or none
abbrev pub Lookup : Type 0
Lookup = Option ℕ
