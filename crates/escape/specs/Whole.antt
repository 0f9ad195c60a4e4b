-- A whole escape, from its backslash on, read at once: what the definition reads character by character, wherever it stands.
use Rattle.escape.specs.Answer.{valued}
use Rattle.utf8.specs.Looks.{char_found}
use Rattle.std.specs.Prelude.{ℕ, ◌+◌, ◌≤◌, List, ◌≡◌}
use Rattle.basis.specs.Types.{Code, Text}
use Rattle.position.specs.declared.Position.{Position}
use Rattle.position.specs.Place.{advanced_by}
use Rattle.utf8.specs.Table.{look_at}
use Rattle.chars.specs.Cursors.{cursor}
use Rattle.escape.specs.Escapes.{digits_from, escaped_of}
use Rattle.escape.specs.declared.Escaped.TheVariants.{Char, Other}
use Rattle.escape.specs.declared.WholeEscape.{WholeEscape}

-- the n digits from an offset make a number, and each takes one byte and one column
abbrev pub DigitsAt : Text → ℕ → ℕ → ℕ → Type 0
DigitsAt t from n v = (p : Position) → digits_from t n 0 (cursor from p) ≡ valued v (cursor (from + n) (advanced_by n p))

abbrev pub whole_escape : Code → ℕ → WholeEscape
whole_escape c w = record { c = c; width = w }

-- nothing was read; or a backslash and a character that stand for d, with n digits behind them; or the escaped terminator
pub data WholeAt (t : List ℕ) (q at : ℕ) : WholeEscape → Type 0 where
  none : {d : ℕ} → WholeAt t q at (whole_escape d 0)
  stands : {c d : ℕ} (n : ℕ) → look_at t at ≡ char_found 0x5C 1 → look_at t (at + 1) ≡ char_found c 1 → 0x20 ≤ c
      → ((p : Position) → escaped_of t c (cursor (at + 2) p) ≡ Char d (cursor (at + 2 + n) (advanced_by n p))) → WholeAt t q at (whole_escape d (n + 2))
  itself : look_at t at ≡ char_found 0x5C 1 → look_at t (at + 1) ≡ char_found q 1 → 0x20 ≤ q
      → ((p : Position) → escaped_of t q (cursor (at + 2) p) ≡ Other) → WholeAt t q at (whole_escape q 2)
