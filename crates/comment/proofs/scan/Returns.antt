-- The table of returns in front of the definition, row by row. Assumes nothing.
use Rattle.lex_error.specs.declared.LexError.TheVariants.{BadArgument, NotUtf8}
use Rattle.std.specs.Prelude.{Err, Ok}
use Prim.Native.Nat.{ℕ}
use mathlib.Core.List.{List, [], ◌∷◌}
use mathlib.Core.Path.{◌≡◌, refl}
use Rattle.basis.specs.Words.{word}
use Rattle.position.specs.Place.{given, advanced, lined, on_line, up}
use Rattle.utf8.specs.Table.{look, chars_from, chars, chars_at, well_from, well, edge}
use Rattle.chars.specs.Cursors.{cursor}
use Rattle.door.specs.Door.{text_of, door_of}
use Rattle.chars.specs.Scan.{run, run_at, widths}
use Rattle.fault.specs.Faults.{fault}
use Rattle.comment.specs.Block.{comment_at, comment_turn, comment_of, comment_refuses, scan_block_comment_of}
use Rattle.comment.specs.Answer.{Commented}

-- what an example computes with: to unfold this is to unfold all that its line names
scan_computes : Unit {0}
unfolding given on_line look chars_from chars chars_at well_from well edge text_of door_of run run_at comment_refuses scan_block_comment_of
scan_computes = tt

-- a scan from the start of a text, at 1:1, and what it reached
abbrev scans : ℕ → List ℕ → Commented
scans level t = scan_block_comment_of t 0 (given 1 1) level

abbrev reached : ℕ → ℕ → ℕ → ℕ → Commented
reached level at line column = Ok (comment_at level (cursor at (given line column)))

pub returned :
    (scans 1 (word "a*/b") ≡ reached 0 3 1 4)
    × (scans 1 (word "/*/ */*/x") ≡ reached 0 8 1 9)
    × (scans 1 (word "/*") ≡ reached 2 2 1 3)
    × (scans 1 (word "**/") ≡ reached 0 3 1 4)
    × (scans 1 (word "/") ≡ reached 1 1 1 2)
    × (scans 1 (0x0A ∷ 0xC3 ∷ 0xA9 ∷ word "*/") ≡ reached 0 5 2 3)
    × (scans 2 (word "*/") ≡ reached 1 2 1 3)
    × (scans 65535 (word "/*") ≡ reached 65536 2 1 3)
    × (scans 1 [] ≡ reached 1 0 1 1)
unfolding scan_computes word advanced lined up widths comment_turn comment_of
returned = (refl, refl, refl, refl, refl, refl, refl, refl, refl)

-- the arguments that are refused: a text that is not UTF-8, an offset past the end and one inside a character, line 0, and the levels next to the range
pub refused :
    (scan_block_comment_of (0x80 ∷ []) 0 (given 1 1) 1 ≡ Err (fault NotUtf8 (given 1 1)))
    × (scan_block_comment_of [] 1 (given 1 1) 1 ≡ Err (fault BadArgument (given 1 1)))
    × (scan_block_comment_of (0xC3 ∷ 0xA9 ∷ []) 1 (given 1 1) 1 ≡ Err (fault BadArgument (given 1 1)))
    × (scan_block_comment_of [] 0 (given 0 1) 1 ≡ Err (fault BadArgument (given 0 1)))
    × (scans 0 [] ≡ Err (fault BadArgument (given 1 1)))
    × (scans 65536 [] ≡ Err (fault BadArgument (given 1 1)))
unfolding scan_computes
refused = (refl, refl, refl, refl, refl, refl)
