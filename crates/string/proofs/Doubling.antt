-- A doubled terminator is one turn, which adds it once. Assumes nothing.
use Rattle.string_turn.specs.Answer.{got_char, goes_with}
use Rattle.utf8.specs.Looks.{char_found}
use Rattle.std.specs.Prelude.{None}
use Prim.Native.Nat.{ℕ, ◌+◌}
use mathlib.Core.List.{List}
use mathlib.Core.Path.{◌≡◌, refl}
use borrow.Author.Tests.{eq-eqb}
use Rattle.basis.specs.Pick.{both}
use Rattle.basis.proofs.Cases.{both_no}
use Rattle.position.specs.declared.Position.{Position}
use Rattle.position.specs.Place.{or_else, advanced}
use Rattle.utf8.specs.Table.{look_at}
use Rattle.white.specs.White.{is_white}
use Rattle.chars.specs.Cursors.{cursor}
use Rattle.chars.specs.declared.cursor.Cursor.{Cursor}
use Rattle.chars.proofs.Cursors.{ate}
use Rattle.string_turn.specs.Kinds.{is_interpolated}
use Rattle.string_turn.specs.Take.{scanning, is_empty, dollar_of, take_of}
use Rattle.string_turn.specs.declared.take.Scanning.{Scanning}
use Rattle.string_turn.specs.Act.{close_of, add_of, plain_of, other_of, match_of, act_of}
use Rattle.string.specs.Reading.{Terminating}
use Rattle.string.proofs.Passing.{either_way}

module _ (t : List ℕ) (q : ℕ) (start : Position) (i : Terminating q) (p f : Position) (b : ℕ) (e : look_at t b ≡ char_found q 1) where
  abbrev pub before : Scanning
  before = scanning p f None 0

  abbrev pub next : Cursor
  next = cursor (b + 1) (advanced p)

  pub doubled_taken : take_of t q start b before ≡ got_char q next
  unfolding take_of dollar_of
  doubled_taken = rw (ate t (cursor b p) e) (either_way (both (is_interpolated q) (is_empty None)) (got_char q next) {y = dollar_of t q next f} (rw (i.no_dollar, i.no_backslash)))

  module _ (g : look_at t (b + 1) ≡ char_found q 1) where
    pub doubled_acted : act_of is_white t q start q next before ≡ goes_with q (b + 1 + 1) (scanning (advanced (advanced p)) (or_else f (advanced (advanced p))) None 0)
    unfolding act_of close_of match_of other_of plain_of add_of
    doubled_acted = rw (eq-eqb q q refl, ate t next g, eq-eqb q q refl, i.no_cr, i.no_lf, i.no_backslash, both_no, i.no_white)
