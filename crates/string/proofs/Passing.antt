-- Plain characters of a string literal: a turn takes one, tests the limit and adds it, and nothing else. Many of them at once, by the law of stretches. Assumes nothing.
use Rattle.std.specs.Prelude.{None, Some}
use Prim.Native.Nat.{ℕ, ◌+◌}
use native.Mathlib.Omega.{arith}
use mathlib.Core.Bool.{Bool, true, false}
use mathlib.Core.List.{List}
use mathlib.Core.Path.{◌≡◌, refl}
use lib.Dec.{eqb}
use borrow.Author.Tests.{le-ltb}
use Rattle.basis.specs.Pick.{pick, both}
use Rattle.basis.proofs.Cases.{both_no}
use Rattle.position.specs.declared.Position.{Position}
use Rattle.position.specs.Place.{or_else, advanced, advanced_by, column_number}
use Rattle.position.proofs.Moves.{first_by, advanced_by_none, advanced_by_more, first_by_none, first_by_more, first_by_some}
use Rattle.utf8.specs.Table.{look_at}
use Rattle.utf8.specs.Encode.{encoded}
use Rattle.utf8.specs.Looks.{Look, char_found}
use Rattle.chars.specs.Cursors.{cursor, get_next_of}
use Rattle.chars.specs.Scan.{run_at}
use Rattle.chars.specs.declared.cursor.Cursor.{Cursor}
use Rattle.chars.proofs.Cursors.{ate, got, got_none}
use Rattle.chars.proofs.Stretches.{is_other}
use Rattle.literal.specs.Trace.{adds, checks}
use Rattle.classes.specs.Marks.{lf, cr, dollar, backslash, backtick, left_brace}
use Rattle.literal.specs.Answers.{once, too_long}
use Rattle.escape.specs.Escapes.{on_taken}
use Rattle.string_turn.specs.Kinds.{is_verbatim, is_interpolated}
use Rattle.string_turn.specs.Take.{scanning, is_empty, next_is, dollar_of, take_of}
use Rattle.string_turn.specs.Passing.{Plain, Added, feed, lone, sign, slash, place_behind}
use Rattle.string_turn.specs.declared.take.Scanning.{Scanning}
use Rattle.string_turn.specs.Answer.{Got, got_char, goes_with}
use Rattle.string_turn.specs.Act.{close_of, line_feed_of, add_of, plain_of, other_of, match_of, act_of}
use Rattle.string.specs.Reading.{string_rule}
use Rattle.string.proofs.Readings.{goes_on}

pub either_way : {A : Type 0} (b : Bool) (x : A) {y : A} → y ≡ x → pick b y x ≡ x
either_way true x e = e
either_way false x e = refl

-- a backslash that no `$` follows is one
no_sign : (t : List ℕ) (here : Cursor) (f : Cursor → Got) (g : Got) → next_is t here.at dollar ≡ false → (x : Look) → look_at t here.at ≡ x
    → on_taken (get_next_of t here) (λ d next. pick (both (eqb d dollar) (next_is t next.at left_brace)) (f next) g) g ≡ g
unfolding next_is
no_sign t here f g h (Some (d, w)) e =
    let k : eqb d dollar ≡ false = rw e at h in
    rw (got t here e, k)
no_sign t here f g h None e = rw (got_none t here e)

module _ (white : ℕ → Bool) (t : List ℕ) (q : ℕ) (start : Position) where
  -- ---- one of them
  module _ (p f : Position) (b : ℕ) {c w : ℕ} (e : look_at t b ≡ char_found c w) (y : Plain q c) where
    abbrev here : Scanning
    here = scanning p f None 0

    abbrev next : Cursor
    next = cursor (b + w) (advanced p)

    abbrev then : Scanning
    then = scanning (advanced p) (or_else f (advanced p)) None 0

    taken : take_of t q start b here ≡ got_char c next
    unfolding take_of dollar_of
    taken =
        let n = is_other q backslash dollar lf cr c y in
        rw (ate t (cursor b p) e) (either_way (both (is_interpolated q) (is_empty None)) (got_char c next) {y = dollar_of t c next f} (rw (n.2, n.1)))

    acted : act_of white t q start c next here ≡ goes_with c (b + w) then
    unfolding act_of close_of match_of other_of plain_of add_of
    acted =
        let n = is_other q backslash dollar lf cr c y in
        rw (n.0, n.4, n.3, n.1, both_no, le-ltb (column_number (advanced p)) 0 (omega arith), both_no)

    one_plain : run_at (string_rule white t q start) t b here ≡ checks (too_long start next (once q)) (adds (encoded c) (run_at (string_rule white t q start) t (b + w) then))
    one_plain = goes_on white t q start b here taken acted

  -- ---- one that text only adds
  module _ (p f : Position) (b : ℕ) where
    abbrev before : Scanning
    before = scanning p f None 0

    abbrev behind : Cursor
    behind = cursor (b + 1) (advanced p)

    abbrev at_last : ℕ → Scanning
    at_last c = scanning (place_behind c p) (or_else f (advanced p)) None 0

    signs : {c : ℕ} → Added t (b + 1) c → dollar_of t c behind f ≡ got_char c behind
    unfolding dollar_of
    signs feed = refl
    signs (lone h) = refl
    signs (sign h) = rw h
    signs (slash h) = no_sign t behind (λ next. got_char dollar next) (got_char backslash behind) h (look_at t (b + 1)) refl

    added_taken : {c : ℕ} → look_at t b ≡ char_found c 1 → Added t (b + 1) c → take_of t backtick start b before ≡ got_char c behind
    unfolding take_of is_interpolated
    added_taken e a = rw (ate t (cursor b p) e) (signs a)

    added_acted : {c : ℕ} → Added t (b + 1) c → act_of white t backtick start c behind before ≡ goes_with c (b + 1) (at_last c)
    unfolding act_of close_of match_of line_feed_of other_of plain_of add_of is_verbatim place_behind
    added_acted feed = refl
    added_acted (lone h) = rw (h, le-ltb (column_number (advanced p)) 0 (omega arith), both_no)
    added_acted (sign h) = rw (le-ltb (column_number (advanced p)) 0 (omega arith), both_no)
    added_acted (slash h) = rw (le-ltb (column_number (advanced p)) 0 (omega arith), both_no)

    pub one_added : {c : ℕ} → look_at t b ≡ char_found c 1 → q ≡ backtick → Added t (b + 1) c
        → run_at (string_rule white t q start) t b before ≡ checks (too_long start behind (once q)) (adds (encoded c) (run_at (string_rule white t q start) t (b + 1) (at_last c)))
    one_added e h a = rw h (goes_on white t backtick start b before (added_taken e a) (added_acted a))

  -- ---- all of them
  module _ (p f : Position) where
    -- behind k characters
    abbrev pub after : ℕ → Scanning
    after k = scanning (advanced_by k p) (first_by k f p) None 0

    pub after_none : after 0 ≡ scanning p f None 0
    after_none = rw (advanced_by_none p, first_by_none f p)

    pub after_some : (k : ℕ) → (k ≡ 0 → ⊥) → after k ≡ scanning (advanced_by k p) (or_else f (advanced p)) None 0
    after_some k n = rw (first_by_some f p k n)

    pub one_after : (k b : ℕ) {c w : ℕ} → look_at t b ≡ char_found c w → Plain q c
        → run_at (string_rule white t q start) t b (after k)
        ≡ checks (too_long start (cursor (b + w) (advanced (advanced_by k p))) (once q)) (adds (encoded c) (run_at (string_rule white t q start) t (b + w) (after (k + 1))))
    one_after k b e y = rw (advanced_by_more k p, ← first_by_more f p k) (one_plain (advanced_by k p) (first_by k f p) b e y)
