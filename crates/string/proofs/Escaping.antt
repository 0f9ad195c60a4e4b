-- A whole escape is two turns: one takes the backslash and adds nothing, the other adds what the escape stands for. So is a backslash at the end of a line, which adds nothing. A space that is skipped is one turn. Assumes nothing.
use Rattle.utf8.specs.Looks.{char_found}
use Rattle.std.specs.Prelude.{None, Some}
use Prim.Native.Nat.{ℕ, ◌+◌, ◌-◌, ◌≤◌, ◌<◌}
use native.Mathlib.Omega.{arith}
use mathlib.Core.Bool.{Bool, true, false}
use mathlib.Core.List.{List}
use mathlib.Core.Path.{◌≡◌, refl, ◌∙◌}
use lib.Dec.{eqb}
use borrow.Author.Tests.{eq-eqb, ne_eqb, lt-ltb}
use Rattle.basis.specs.Pick.{isnt}
use Rattle.basis.proofs.Cases.{both_no}
use Rattle.position.specs.declared.Position.{Position}
use Rattle.position.specs.Place.{or_else, advanced, advanced_by, lined, column_number}
use Rattle.position.proofs.Moves.{advanced_by_none, advanced_by_more, advanced_by_first, first_stays}
use Rattle.utf8.specs.Table.{look_at}
use Rattle.chars.specs.Cursors.{cursor}
use Rattle.chars.proofs.Cursors.{ate}
use Rattle.classes.specs.Marks.{lf, cr, space, quote, backslash}
use Rattle.escape.specs.Escapes.{no_char, escaped_of}
use Rattle.escape.specs.Whole.{WholeAt, none, stands, itself}
use Rattle.escape.specs.declared.WholeEscape.{WholeEscape}
use Rattle.escape.specs.declared.Escaped.TheVariants as escaped
use Rattle.string_turn.specs.Kinds.{is_verbatim, is_continued}
use Rattle.string_turn.specs.Take.{scanning, take_of}
use Rattle.string_turn.specs.declared.take.Scanning.{Scanning}
use Rattle.string_turn.specs.Act.{close_of, line_feed_of, escape_of, add_of, plain_of, other_of, match_of, act_of}
use Rattle.string_turn.specs.Answer.{Acted, got_char, goes_with}
use Rattle.string.specs.Reading.{Escaping}
use Rattle.string.proofs.Readings.{Once, once_on, Twice, twice_on}

module _ (white : ℕ → Bool) (t : List ℕ) (q : ℕ) (start : Position) (i : Escaping q) (p f : Position) (k b : ℕ) where
  -- before the backslash, and behind it
  abbrev before : Scanning
  before = scanning p f None k

  abbrev pending : Scanning
  pending = scanning (advanced p) (or_else f (advanced p)) (Some (b + 1 - 1)) k

  -- two columns before n are two behind them
  columns_behind : (n : ℕ) → advanced_by n (advanced (advanced p)) ≡ advanced_by (n + 2) p
  columns_behind n =
      let z : n + 2 ≡ n + 1 + 1 = omega arith in
      rw (z, advanced_by_more (n + 1) p, advanced_by_more n p, advanced_by_first n (advanced p), advanced_by_first n p)

  module _ (e : look_at t b ≡ char_found backslash 1) where
    took : take_of t q start b before ≡ got_char backslash (cursor (b + 1) (advanced p))
    unfolding take_of
    took = rw (ate t (cursor b p) e, i.whole)

    acted : act_of white t q start backslash (cursor (b + 1) (advanced p)) before ≡ goes_with no_char (b + 1) pending
    unfolding act_of close_of match_of other_of plain_of
    acted = rw (i.other, i.plain)

    module _ {c : ℕ} (g : look_at t (b + 1) ≡ char_found c 1) (l : 0x20 ≤ c) where
      abbrev behind : Position
      behind = advanced (advanced p)

      took_next : take_of t q start (b + 1) pending ≡ got_char c (cursor (b + 1 + 1) behind)
      unfolding take_of
      took_next = rw (ate t (cursor (b + 1) (advanced p)) g, i.whole)

      acts : act_of white t q start c (cursor (b + 1 + 1) behind) pending ≡ escape_of t q c (b + 1 - 1) (b + 1 + 1) (scanning behind (or_else (or_else f (advanced p)) behind) (Some (b + 1 - 1)) k)
      unfolding act_of close_of match_of other_of
      acts = rw (both_no (eqb c q), ne_eqb c cr (λ z. omega arith), ne_eqb c lf (λ z. omega arith))

      abbrev first : Position
      first = or_else f (advanced p)

      -- behind the whole, where it stands for d
      module _ {d at' : ℕ} {p' : Position} (x : escape_of t q c (b + 1 - 1) (b + 1 + 1) (scanning behind first (Some (b + 1 - 1)) k) ≡ goes_with d at' (scanning p' first None k)) where
        acted_next : act_of white t q start c (cursor (b + 1 + 1) behind) pending ≡ goes_with d at' (scanning p' first None k)
        acted_next = acts ∙ rw (first_stays f p behind) x

        twice : Twice white t q start b before d at' (scanning p' first None k)
        twice = twice_on white t q start b before took acted took_next acted_next

    -- a line feed behind it, in an ordinary literal: it goes on in the next line
    module _ (h : q ≡ quote) (g : look_at t (b + 1) ≡ char_found lf 1) where
      abbrev below : Scanning
      below = scanning (lined (advanced (advanced p))) (or_else f (advanced p)) None (column_number start + 1)

      took_feed : take_of t q start (b + 1) pending ≡ got_char lf (cursor (b + 1 + 1) (advanced (advanced p)))
      unfolding take_of
      took_feed = rw (ate t (cursor (b + 1) (advanced p)) g, i.whole)

      acted_feed : act_of white t q start lf (cursor (b + 1 + 1) (advanced (advanced p))) pending ≡ goes_with no_char (b + 1 + 1) below
      unfolding act_of close_of match_of line_feed_of is_verbatim is_continued
      acted_feed = rw (h, first_stays f p (advanced (advanced p)))

      pub continues_twice : Twice white t q start b before no_char (b + 1 + 1) below
      continues_twice = twice_on white t q start b before took acted took_feed acted_feed

  -- ---- a space in a column below which white space is skipped: one turn, which adds nothing
  module _ (e : look_at t b ≡ char_found space 1) (o : eqb space q ≡ false) (w : white space ≡ true) (l : column_number (advanced p) < k) where
    abbrev skipping : Scanning
    skipping = scanning (advanced p) (or_else f (advanced p)) None k

    took_space : take_of t q start b before ≡ got_char space (cursor (b + 1) (advanced p))
    unfolding take_of
    took_space = rw (ate t (cursor b p) e, i.whole)

    acted_space : act_of white t q start space (cursor (b + 1) (advanced p)) before ≡ goes_with no_char (b + 1) skipping
    unfolding act_of close_of match_of other_of plain_of add_of
    acted_space = rw (o, both_no (isnt (is_verbatim q)), w, lt-ltb (column_number (advanced p)) k l)

    pub skips_once : Once white t q start b before no_char (b + 1) skipping
    skips_once = once_on white t q start b before took_space acted_space

  -- an escape that all literals have, and the escaped terminator
  abbrev escapes : ℕ → Acted
  escapes c = escape_of t q c (b + 1 - 1) (b + 1 + 1) (scanning (advanced (advanced p)) (or_else f (advanced p)) (Some (b + 1 - 1)) k)

  abbrev whole_on : ℕ → Scanning
  whole_on w = scanning (advanced_by w p) (or_else f (advanced p)) None k

  escape_stands : (c d n : ℕ) → ((p : Position) → escaped_of t c (cursor (b + 2) p) ≡ escaped.Char d (cursor (b + 2 + n) (advanced_by n p))) → escapes c ≡ goes_with d (b + (n + 2)) (whole_on (n + 2))
  unfolding escape_of
  escape_stands c d n x =
      let y : b + 1 + 1 ≡ b + 2 = omega arith in
      let z : b + 2 + n ≡ b + (n + 2) = omega arith in
      rw (y, x (advanced (advanced p)), z, columns_behind n)

  escape_itself : ((p : Position) → escaped_of t q (cursor (b + 2) p) ≡ escaped.Other) → escapes q ≡ goes_with q (b + 2) (whole_on 2)
  unfolding escape_of
  escape_itself x =
      let y : b + 1 + 1 ≡ b + 2 = omega arith in
      rw (y, x (advanced (advanced p)), eq-eqb q q refl, ← columns_behind 0, advanced_by_none)

  -- what was read at once
  pub whole_twice : {w : WholeEscape} → WholeAt t q b w → (w.width ≡ 0 → ⊥) → Twice white t q start b before w.c (b + w.width) (whole_on w.width)
  whole_twice none n = absurd (n refl)
  whole_twice (stands {c} {d} m e g l x) n = twice e g l (escape_stands c d m x)
  whole_twice (itself e g l x) n = twice e g l (escape_itself x)
