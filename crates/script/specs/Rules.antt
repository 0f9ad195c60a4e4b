-- The rules of a reading, as far as they can be chosen: document 02 lets a caller name an edition of White_Space and a mode of raw newlines. What is fixed is fixed here.
use Rattle.std.specs.Prelude.{Bool}
use Rattle.basis.specs.Types.{Code}
use Rattle.white.specs.White.{is_white}
use Rattle.raw.specs.Raw.{Newlines, as_source}

-- what is white, between tokens and behind the end of a continued line; and which line feeds of a raw literal's body start a line
pub record Rules : Type 0 where
  pub white : Code → Bool
  pub newlines : Newlines

-- document 01's: Unicode's White_Space, and the source's raw literals
abbrev pub document01 : Rules
document01 = record { white = is_white; newlines = as_source }
