-- What the inner functions answer: a stretch that is passed.
use Rattle.utf8.specs.Looks.{char_found}
use Rattle.std.specs.Prelude.{ℕ, true, false, List, ◌≡◌}
use Rattle.utf8.specs.Table.{look_at}
use Rattle.chars.specs.Stretch as chars
use Rattle.chars.specs.Ends.{goes_on_in}
use Rattle.chars.specs.declared.stretch.Stretch.{Stretch}

-- a character that goes on
abbrev pub Goes : Stretch → ℕ → Type 0
Goes what c = goes_on_in what c ≡ true

-- k characters that go on stand between two offsets, and none behind them
pub record Ends (what : Stretch) (t : List ℕ) (from k to : ℕ) : Type 0 where
  pub passed : chars.StretchOf t (Goes what) from k to
  pub stops : (c w : ℕ) → look_at t to ≡ char_found c w → goes_on_in what c ≡ false
