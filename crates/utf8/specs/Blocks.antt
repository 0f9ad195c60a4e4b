-- Blocks of ASCII, which a check of a text passes at once.
use Rattle.std.specs.Prelude.{ℕ, ◌≤◌, ◌<◌, List, length, get_or}

-- from one offset to another in the text, every byte is ASCII
pub record Ascii (s : List ℕ) (from to : ℕ) : Type 0 where
  pub ends : to ≤ length s
  pub low : (i : ℕ) → from ≤ i → i < to → get_or s i 0 < 0x80
