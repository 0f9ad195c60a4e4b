-- The ASCII white space that a run skips at once. Each character of it is what `find_of` calls white, so a run that skips it stands where one stands that takes it turn by turn (script, proofs/Skips.antt).
use Rattle.std.specs.Prelude.{ℕ, zero, suc, ◌+◌, ◌-◌, Bool, true, false, eqb, ltb, length, None, Some}
use Rattle.basis.specs.Types.{Code, Text}
use Rattle.basis.specs.Pick.{pick, both}
use Rattle.position.specs.Place.{advanced, lined}
use Rattle.utf8.specs.Table.{look_at}
use Rattle.utf8.specs.Looks.{Look}
use Rattle.classes.specs.Marks.{lf}
use Rattle.chars.specs.Cursors.{cursor}
use Rattle.chars.specs.declared.cursor.Cursor.{Cursor}

-- past a character that is white: only LF starts a line
abbrev pub past_white : Code → Cursor → Cursor
past_white c to = pick (eqb c lf) (cursor to.at (lined to.place)) to

-- past what is skipped it goes on; else it ends before
abbrev pub on_blank : Bool → Cursor → Cursor → (Cursor → Cursor) → Cursor
on_blank true to s next = next to
on_blank false to s next = s

abbrev pub on_character : (Code → Bool) → Cursor → Look → (Cursor → Cursor) → Cursor
on_character white s (Some (c, w)) next = on_blank (both (ltb c 0x80) (white c)) (past_white c (cursor (s.at + w) (advanced s.place))) s next
on_character white s None next = s

-- behind n characters at most
unfoldable pub skip_from : (Code → Bool) → ℕ → Text → Cursor → Cursor
skip_from white zero t s = s
skip_from white (suc n) t s = on_character white s (look_at t s.at) (λ to. skip_from white n t to)

-- behind all that follows a cursor
unfoldable pub skip_of : (Code → Bool) → Text → Cursor → Cursor
skip_of white t s = skip_from white (length t - s.at) t s
