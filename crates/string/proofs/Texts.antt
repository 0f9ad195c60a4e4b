-- In text, a CR before LF is two turns, of which the first adds nothing; `\$` before `{` is one turn, which adds `$`. Assumes nothing.
use Rattle.string_turn.specs.Answer.{got_char, goes_with}
use Rattle.utf8.specs.Looks.{char_found}
use Rattle.std.specs.Prelude.{None}
use Prim.Native.Nat.{ℕ, ◌+◌}
use mathlib.Core.Bool.{Bool, false}
use mathlib.Core.List.{List}
use mathlib.Core.Path.{◌≡◌}
use Rattle.position.specs.declared.Position.{Position}
use Rattle.position.specs.Place.{or_else, advanced, lined}
use Rattle.position.proofs.Moves.{first_stays}
use Rattle.utf8.specs.Table.{look_at}
use Rattle.chars.specs.Cursors.{cursor}
use Rattle.chars.specs.declared.cursor.Cursor.{Cursor}
use Rattle.chars.proofs.Cursors.{ate, got}
use Rattle.classes.specs.Marks.{lf, cr, dollar, backslash, backtick, left_brace}
use Rattle.escape.specs.Escapes.{no_char}
use Rattle.string_turn.specs.Kinds.{is_verbatim, is_interpolated}
use Rattle.string_turn.specs.Take.{scanning, next_is, dollar_of, take_of}
use Rattle.string_turn.specs.declared.take.Scanning.{Scanning}
use Rattle.string_turn.specs.Act.{close_of, line_feed_of, add_of, plain_of, other_of, match_of, act_of}
use Rattle.string.proofs.Readings.{Once, once_on, Twice, twice_on}

module _ (white : ℕ → Bool) (t : List ℕ) (start p f : Position) (k b : ℕ) where
  abbrev before : Scanning
  before = scanning p f None k

  abbrev next : Cursor
  next = cursor (b + 1) (advanced p)

  abbrev first : Position
  first = or_else f (advanced p)

  -- ---- a CR before LF
  module _ (e : look_at t b ≡ char_found cr 1) (g : look_at t (b + 1) ≡ char_found lf 1) where
    abbrev behind : Scanning
    behind = scanning (advanced p) first None k

    abbrev last : Cursor
    last = cursor (b + 1 + 1) (advanced (advanced p))

    took : take_of t backtick start b before ≡ got_char cr next
    unfolding take_of dollar_of is_interpolated
    took = rw (ate t (cursor b p) e)

    vanishes : act_of white t backtick start cr next before ≡ goes_with no_char (b + 1) behind
    unfolding act_of close_of match_of next_is
    vanishes = rw g

    took_feed : take_of t backtick start (b + 1) behind ≡ got_char lf last
    unfolding take_of dollar_of is_interpolated
    took_feed = rw (ate t next g)

    feeds : act_of white t backtick start lf last behind ≡ goes_with lf (b + 1 + 1) (scanning (lined (advanced (advanced p))) first None k)
    unfolding act_of close_of match_of line_feed_of is_verbatim
    feeds = rw (first_stays f p (advanced (advanced p)))

    pub feed_twice : Twice white t backtick start b before lf (b + 1 + 1) (scanning (lined (advanced (advanced p))) first None k)
    feed_twice = twice_on white t backtick start b before took vanishes took_feed feeds

  -- ---- `\$` before `{`
  module _ (e : look_at t b ≡ char_found backslash 1) (g : look_at t (b + 1) ≡ char_found dollar 1) (h : look_at t (b + 1 + 1) ≡ char_found left_brace 1) (no_white : white dollar ≡ false) where
    abbrev sign : Cursor
    sign = cursor (b + 1 + 1) (advanced p)

    took_sign : take_of t backtick start b before ≡ got_char dollar sign
    unfolding take_of dollar_of is_interpolated next_is
    took_sign = rw (ate t (cursor b p) e, got t next g, h)

    adds_sign : act_of white t backtick start dollar sign before ≡ goes_with dollar (b + 1 + 1) (scanning (advanced p) first None 0)
    unfolding act_of close_of match_of other_of plain_of add_of is_verbatim
    adds_sign = rw no_white

    pub sign_once : Once white t backtick start b before dollar (b + 1 + 1) (scanning (advanced p) first None 0)
    sign_once = once_on white t backtick start b before took_sign adds_sign
