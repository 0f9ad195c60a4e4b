-- UTF-8 as Unicode's Table 3-7 prints it: the character that bytes begin with, the characters of a text, and where they begin.
use Rattle.std.specs.Prelude.{ℕ, zero, suc, pred, ◌+◌, ◌-◌, ◌*◌, Bool, true, false, List, [], ◌∷◌, leb, ltb, eqb, length, drop, get_or, None, Some}
use Rattle.basis.specs.Types.{Text, Code, Offset}
use Rattle.basis.specs.Pick.{pick, both, isnt}
use Rattle.utf8.specs.Looks.{Look, char_found}

-- a range of bytes, both ends in it
pub record Range : Type 0 where
  pub low : ℕ
  pub high : ℕ

-- from l up to h, as the table prints it
infix 90 ◌‥◌
abbrev pub ◌‥◌ : ℕ → ℕ → Range
l ‥ h = record { low = l; high = h }

-- a byte lies in a range
abbrev pub within : Range → ℕ → Bool
within r b = both (leb r.low b) (leb b r.high)

-- a row of the table: its code points, from and to; its first byte; its further bytes
pub data TableRow : Type 0 where
  row : ℕ → ℕ → Range → List Range → TableRow

-- Table 3-7, well-formed UTF-8 byte sequences
abbrev pub table37 : List TableRow
table37 =
    row 0x0000 0x007F (0x00 ‥ 0x7F) []
    ∷ row 0x0080 0x07FF (0xC2 ‥ 0xDF) (0x80 ‥ 0xBF ∷ [])
    ∷ row 0x0800 0x0FFF (0xE0 ‥ 0xE0) (0xA0 ‥ 0xBF ∷ 0x80 ‥ 0xBF ∷ [])
    ∷ row 0x1000 0xCFFF (0xE1 ‥ 0xEC) (0x80 ‥ 0xBF ∷ 0x80 ‥ 0xBF ∷ [])
    ∷ row 0xD000 0xD7FF (0xED ‥ 0xED) (0x80 ‥ 0x9F ∷ 0x80 ‥ 0xBF ∷ [])
    ∷ row 0xE000 0xFFFF (0xEE ‥ 0xEF) (0x80 ‥ 0xBF ∷ 0x80 ‥ 0xBF ∷ [])
    ∷ row 0x10000 0x3FFFF (0xF0 ‥ 0xF0) (0x90 ‥ 0xBF ∷ 0x80 ‥ 0xBF ∷ 0x80 ‥ 0xBF ∷ [])
    ∷ row 0x40000 0xFFFFF (0xF1 ‥ 0xF3) (0x80 ‥ 0xBF ∷ 0x80 ‥ 0xBF ∷ 0x80 ‥ 0xBF ∷ [])
    ∷ row 0x100000 0x10FFFF (0xF4 ‥ 0xF4) (0x80 ‥ 0x8F ∷ 0x80 ‥ 0xBF ∷ 0x80 ‥ 0xBF ∷ [])
    ∷ []

-- the further bytes of a row, each in its range: the code point, counted on from v in sixty-fourths, and the width w
abbrev pub further : Code → ℕ → List Range → ℕ → Text → Look
further from w [] v bs = char_found (from + v) w
further from w (r ∷ rs) v [] = None
further from w (r ∷ rs) v (b ∷ bs) = pick (within r b) (further from w rs (v * 64 + (b - r.low)) bs) None

-- the character that the bytes begin with, by the row that has the first byte; None if no row has it
abbrev pub look_in : List TableRow → Text → Look
look_in [] bs = None
look_in (row from to r rs ∷ rows) [] = None
look_in (row from to r rs ∷ rows) (b ∷ bs) =
    pick (within r b) (further from (suc (length rs)) rs (b - r.low) bs) (look_in rows (b ∷ bs))

-- the character that a text begins with: its code point and its width in bytes; None if none does
unfoldable pub look : Text → Look
look bs = look_in table37 bs

-- the character that begins at an offset
unfoldable pub look_at : Text → Offset → Look
look_at s at = look (drop at s)

-- a character of a text: its code point, and how many bytes it takes
pub record Ch : Type 0 where
  pub code : Code
  pub width : ℕ

-- a character, by its parts
abbrev pub ch : Code → ℕ → Ch
ch c w = record { code = c; width = w }

-- a character found, and then those after its bytes
abbrev pub chars_on : Look → (ℕ → List Ch) → List Ch
chars_on (Some (c, w)) on = ch c w ∷ on (pred w)
chars_on None on = []

-- the characters of a text of which k bytes are still to pass
unfoldable pub chars_from : ℕ → Text → List Ch
chars_from k [] = []
chars_from zero (b ∷ bs) = chars_on (look (b ∷ bs)) (λ k. chars_from k bs)
chars_from (suc k) (b ∷ bs) = chars_from k bs

-- the characters of a text, up to the first place where none begins
unfoldable pub chars : Text → List Ch
chars s = chars_from 0 s

-- the characters from an offset on
unfoldable pub chars_at : Text → Offset → List Ch
chars_at s at = chars (drop at s)

-- their code points
unfoldable pub codes : List Ch → List Code
codes [] = []
codes (c ∷ cs) = c.code ∷ codes cs

-- a character found, and the same asked after its bytes
abbrev pub well_on : Look → (ℕ → Bool) → Bool
well_on (Some (c, w)) on = on (pred w)
well_on None on = false

-- a text of which k bytes are still to pass is well formed after them
unfoldable pub well_from : ℕ → Text → Bool
well_from k [] = true
well_from zero (b ∷ bs) = well_on (look (b ∷ bs)) (λ k. well_from k bs)
well_from (suc k) (b ∷ bs) = well_from k bs

-- a text is well formed: a character begins at its start and wherever one ended, up to its end
unfoldable pub well : Text → Bool
well s = well_from 0 s

-- an offset at which a character of the list begins, or the end of the list
unfoldable pub edge : List Ch → Offset → Bool
edge [] n = eqb n 0
edge (c ∷ cs) n = pick (eqb n 0) true (pick (ltb n c.width) false (edge cs (n - c.width)))

-- an offset whose byte is not 80..BF, or the end of the text: in a well-formed text, the edges (law boundary-edge)
unfoldable pub boundary : Text → Offset → Bool
boundary s at = pick (ltb at (length s)) (isnt (within (0x80 ‥ 0xBF) (get_or s at 0))) (eqb at (length s))
