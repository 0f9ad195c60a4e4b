-- What is true of every row of Table 3-7, computed from the table: its two columns agree with each other and with Table 3-6, and no scalar value is left out.
-- Assumes nothing.
use Prim.Native.Nat.{ℕ, suc, ◌+◌, ◌-◌, ◌*◌, ◌≤◌, ◌<◌}
use native.Mathlib.Omega.{arith}
use mathlib.Core.List.{List, [], ◌∷◌}
use mathlib.Core.Path.{◌≡◌, refl}
use lib.ListN.{length}
use Rattle.utf8.specs.Table.{Range, TableRow, row, table37}
use Rattle.utf8.proofs.Digits.{base, least, past}

-- one more digit: that of a range's lowest byte, and that of its highest
abbrev pub on_low : ℕ → Range → ℕ
on_low p s = p * 64 + (s.low - 0x80)

abbrev pub on_high : ℕ → Range → ℕ
on_high u s = u * 64 + (s.high - 0x80)

-- the digits p and then the lowest bytes; the digits u and then the highest
abbrev pub lows : ℕ → List Range → ℕ
lows p [] = p
lows p (s ∷ rs) = lows (on_low p s) rs

abbrev pub highs : ℕ → List Range → ℕ
highs u [] = u
highs u (s ∷ rs) = highs (on_high u s) rs

-- a range of further bytes, where the row's lowest code point has the digits p so far, and its highest the digits u. Where p and u differ it is all of 80..BF, so that no code point between is left out
pub record Byte (p u : ℕ) (s : Range) : Type 0 where
  pub low : 0x80 ≤ s.low
  pub some : s.low ≤ s.high
  pub high : s.high ≤ 0xBF
  pub whole_low : p < u → s.low ≤ 0x80
  pub whole_high : p < u → 0xBF ≤ s.high

abbrev pub Bytes : ℕ → ℕ → List Range → Type 0
Bytes p u [] = Unit {0}
Bytes p u (s ∷ rs) = Byte p u s × Bytes (on_low p s) (on_high u s) rs

-- a row, where the rows before it have the first bytes below b and the code points below n
pub record Fair (b n from to : ℕ) (r : Range) (rs : List Range) : Type 0 where
  -- it comes next; only the surrogates are left out, between two rows
  pub bytes_next : b ≤ r.low
  pub codes_next : n ≤ from
  pub left_out : n < from → (n ≡ 0xD800) × (from ≡ 0xE000)
  pub no_surrogate : 0xD800 ≤ to → 0xE000 ≤ from
  pub valid : to < 0x110000
  -- its code points are what its bytes encode
  pub some : r.low ≤ r.high
  pub based : base (length rs) ≤ r.low
  pub lowest : from ≡ lows (r.low - base (length rs)) rs
  pub highest : to ≡ highs (r.high - base (length rs)) rs
  pub others : Bytes (r.low - base (length rs)) (r.high - base (length rs)) rs
  -- in as many bytes
  pub enough : least (length rs) ≤ from
  pub few : to < past (length rs)
  -- and no first byte is a further byte
  pub apart : 0x80 ≤ r.high → 0xC0 ≤ r.low

abbrev pub FairRows : ℕ → ℕ → List TableRow → Type 0
FairRows b n [] = n ≡ 0x110000
FairRows b n (row from to r rs ∷ rows) = Fair b n from to r rs × FairRows (suc r.high) (suc to) rows

pub fair : FairRows 0 0 table37
fair = (omega arith, (omega arith, (omega arith, (omega arith, (omega arith, (omega arith, (omega arith, (omega arith, (omega arith, refl)))))))))
