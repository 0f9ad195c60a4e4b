-- A token that may be none, as one number, for the C names.
use Rattle.std.specs.Prelude.{ℕ, None, Some}
use Rattle.token.specs.Lookups.{Lookup}

-- a token; 256 for none
unfoldable pub lookup_as_number : Lookup → ℕ
lookup_as_number (Some t) = t
lookup_as_number None = 256
