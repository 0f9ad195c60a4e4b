-- Characters of a string literal, passed at once: those that a turn would take, add, and do nothing else with. They are passed where no escape is pending and nothing is skipped.
use Rattle.utf8.specs.Looks.{char_found}
use Rattle.std.specs.Prelude.{ℕ, ◌+◌, false, List, ◌≡◌, eqb, None}
use Rattle.basis.specs.Types.{Code, Offset}
use Rattle.basis.specs.Pick.{pick}
use Rattle.position.specs.declared.Position.{Position}
use Rattle.position.specs.Place.{or_else, advanced, advanced_by, lined}
use Rattle.utf8.specs.Table.{look_at}
use Rattle.chars.specs.Stretch.{StretchOf, Other}
use Rattle.classes.specs.Marks.{lf, cr, dollar, backslash, backtick, left_brace}
use Rattle.string_turn.specs.Take.{scanning, next_is}
use Rattle.string_turn.specs.declared.take.Scanning.{Scanning}
use Rattle.string_turn.specs.declared.take.Stood.{Stood}

-- neither the terminator nor a character that the rules name
abbrev pub Plain : Code → Code → Type 0
Plain q c = Other q backslash dollar lf cr c

-- a character that the rules name, ending at an offset, which text only adds: a line feed; a CR but before one; `$` but before `{`; a backslash but before `$`
pub data Added (t : List ℕ) (at : ℕ) : ℕ → Type 0 where
  feed : Added t at lf
  lone : next_is t at lf ≡ false → Added t at cr
  sign : next_is t at left_brace ≡ false → Added t at dollar
  slash : next_is t at dollar ≡ false → Added t at backslash

-- the place behind it
unfoldable pub place_behind : Code → Position → Position
place_behind c p = pick (eqb c lf) (lined (advanced p)) (advanced p)

-- where a scan stands: an offset, the place, and the first place
abbrev pub stood : Offset → Position → Position → Stood
stood at p f = record { at = at; place = p; first = f }

-- its state: no escape is pending, and nothing is skipped
abbrev pub stood_state : Stood → Scanning
stood_state u = scanning u.place u.first None 0

-- the first place, behind one character at least
abbrev pub first_behind : Stood → Position
first_behind u = or_else u.first (advanced u.place)

-- nothing was passed; or plain characters; or, in text, one that is only added; or one thing and then another
pub data StringPasses (t : List ℕ) (q : ℕ) : Stood → Stood → Type 0 where
  none : {u : Stood} → StringPasses t q u u
  some : {u : Stood} {k b : ℕ} → StretchOf t (Plain q) u.at k b → (k ≡ 0 → ⊥) → StringPasses t q u (stood b (advanced_by k u.place) (first_behind u))
  one : {u : Stood} {c : ℕ} → q ≡ backtick → look_at t u.at ≡ char_found c 1 → Added t (u.at + 1) c → StringPasses t q u (stood (u.at + 1) (place_behind c u.place) (first_behind u))
  then : {u v r : Stood} → StringPasses t q u v → StringPasses t q v r → StringPasses t q u r
