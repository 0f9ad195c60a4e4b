-- The turn of a block comment, for each way through the code, and what it leaves of the scan. Assumes nothing.
use Rattle.std.specs.declared.ops.ControlFlow.TheVariants.{Break, Continue}
use lib.Dec.{eqb}
use Rattle.chars.specs.Takes.{Taken, char_taken}
use Rattle.utf8.specs.Looks.{char_found}
use Rattle.std.specs.Prelude.{None, Some, MatchOption}
use Rattle.std.specs.Bool.{then_some}
use Prim.Native.Nat.{ℕ, ◌+◌, ◌-◌, ◌≤◌, ◌<◌}
use native.Mathlib.Omega.{arith}
use native.Mathlib.Nat.{add-zero}
use mathlib.Core.Bool.{Bool, true, false}
use mathlib.Core.List.{List}
use mathlib.Core.Path.{◌≡◌, refl, sym, ap, ◌∙◌}
use lib.ListN.{length}
use borrow.Author.Tests.{eq-eqb, ne_eqb, eqb-true, eqb-false}
use Rattle.basis.specs.Pick.{pick}
use Rattle.basis.proofs.Cases.{not_both}
use Rattle.position.specs.declared.Position.{Position}
use Rattle.position.specs.Place.{advanced, advanced_by, lined}
use Rattle.position.proofs.Moves.{advanced_by_none, advanced_by_more}
use Rattle.utf8.specs.Table.{chars_at, look_at}
use Rattle.utf8.proofs.Laws.{at_width, chars_char}
use Rattle.chars.specs.Cursors.{cursor, eat_next_of}
use Rattle.chars.specs.Scan.{follows, widths, run_at, Move, on, over}
use Rattle.chars.specs.Stretch.{StretchOf, Other}
use Rattle.chars.specs.declared.cursor.Cursor.{Cursor}
use Rattle.chars.proofs.Cursors.{Took, ate_took, ate_ended}
use Rattle.chars.proofs.Follows.{followed, other_follows, nothing_follows}
use Rattle.chars.proofs.Scans.{move_on, move_over, at_end_lem, one_on, two_on, is_over}
use Rattle.chars.proofs.Stretches.{is_other, stretched, stretch_low, stretch_high}
use Rattle.chars.proofs.Stretches as stretches
use Rattle.comment.specs.Block.{comment_at, Inside, inside, comment_turn, comment_rule, comment_of}
use Rattle.comment.specs.Step.{Led, led_on, led_over, eat_if_of, move_of, as_led, LevelFits, TurnFits}
use Rattle.comment.specs.declared.scan.Comment.{Comment}

-- ---- characters taken
-- a cursor behind a character is further on, and within the text
pub further_on : (t : List ℕ) (s : Cursor) {c : ℕ} {next : Cursor} → eat_next_of t s ≡ char_taken c next → (s.at < next.at) × (next.at ≤ length t)
further_on t s e =
    let k = ate_took t s e in
    let h = at_width t s.at k.found in
    rw k.stands (omega arith, omega arith)

-- one level up at most, further on, is fine
pub still_fine : (n level : ℕ) (from : Cursor) {next : Cursor} {m : ℕ} → LevelFits n level from → (from.at < next.at) × (next.at ≤ n) → 1 ≤ m → m ≤ level + 1 → TurnFits n from (led_on m next)
still_fine n level from f h l u = (record { low = l; high = omega arith; within = h.1 }, h.0)

-- a character taken if it is the one asked for
module _ (t : List ℕ) (s : Cursor) (c : ℕ) where
  module _ {d : ℕ} {next : Cursor} (e : eat_next_of t s ≡ char_taken d next) where
    eaten : d ≡ c → eat_if_of t s c ≡ char_taken d next
    unfolding eat_if_of
    eaten h = rw (followed t s.at c (ate_took t s e).found h, e)

    another : (d ≡ c → ⊥) → eat_if_of t s c ≡ None
    unfolding eat_if_of
    another h = rw (other_follows t s.at c (ate_took t s e).found h)

  none_there : eat_next_of t s ≡ None → eat_if_of t s c ≡ None
  unfolding eat_if_of
  none_there e = rw (nothing_follows t s.at c (ate_ended t s e))

  -- the character that is next, if it is the one asked for
  pub eaten_if : {o r : Taken} {X : ℕ × Cursor → Bool → Type 0} → o ≡ eat_next_of t s → MatchOption o (r ≡ None) (λ x. (b : Bool) × X x b × (r ≡ then_some b x)) → ((x : ℕ × Cursor) (b : Bool) → X x b → b ≡ eqb x.0 c) → r ≡ eat_if_of t s c
  eaten_if {o = Some (d, next)} {r = r} e m f = by m.0 (f (d, next) m.0 m.1) m.2
    where
      by : (b : Bool) → b ≡ eqb d c → r ≡ then_some b (d, next) → r ≡ eat_if_of t s c
      by true q h = h ∙ sym (eaten (sym e) (eqb-true d c (sym q)))
      by false q h = h ∙ sym (another (sym e) (eqb-false d c (sym q)))
  eaten_if {o = None} e m f = m ∙ sym (none_there (sym e))

  is_it : {d w : ℕ} → look_at t s.at ≡ char_found d w → follows c (chars_at t s.at) ≡ true → d ≡ c
  is_it {d} e h = eqb-true d c (rw (chars_char t s.at e) at h)

  pub if_took : {d : ℕ} {next : Cursor} → eat_if_of t s c ≡ char_taken d next → (eat_next_of t s ≡ char_taken d next) × (d ≡ c)
  unfolding eat_if_of
  if_took {d} {next} e = go (follows c (chars_at t s.at)) refl e
    where
      go : (b : Bool) → follows c (chars_at t s.at) ≡ b → pick b (eat_next_of t s) None ≡ char_taken d next → (eat_next_of t s ≡ char_taken d next) × (d ≡ c)
      go true q h = (h, is_it (ate_took t s h).found q)
      go false q h = absurd (let z : ◌≡◌ {A = ℕ} 0 1 = cc in omega arith)

  pub if_none : eat_if_of t s c ≡ None → follows c (chars_at t s.at) ≡ false
  unfolding eat_if_of
  if_none e = go (follows c (chars_at t s.at)) refl e
    where
      go : (b : Bool) → follows c (chars_at t s.at) ≡ b → pick b (eat_next_of t s) None ≡ None → follows c (chars_at t s.at) ≡ false
      go true q h = not_both q (nothing_follows t s.at c (ate_ended t s h))
      go false q h = q

-- the same, of two characters
pub twice_on : (t : List ℕ) (n : ℕ) (next : Cursor) (c : ℕ) {d : ℕ} {after : Cursor} → (n < next.at) × (next.at ≤ length t) → eat_if_of t next c ≡ char_taken d after → (n < after.at) × (after.at ≤ length t)
twice_on t n next c h e = let k = further_on t next (if_took t next c e).0 in (omega arith, omega arith)

-- ---- the turn, for each way
module _ (t : List ℕ) (level : ℕ) (from : Cursor) where
  abbrev here : Inside
  here = inside level from.place

  pub ends : eat_next_of t from ≡ None → led_over level from ≡ as_led (move_of t level from)
  unfolding move_of
  ends e = sym (ap as_led (at_end_lem comment_rule t from.at here (ate_ended t from e)))

  module _ {c : ℕ} {next : Cursor} (e : eat_next_of t from ≡ char_taken c next) where
    abbrev took : Took t from.at (advanced from.place) c next
    took = ate_took t from e

    -- what stands behind it, as the rule asks it
    next_not : (d : ℕ) → eat_if_of t next d ≡ None → follows d (chars_at t (from.at + took.width)) ≡ false
    next_not d f = rw (← ap (λ (x : Cursor). x.at) took.stands) (if_none t next d f)

    -- a pair, and what stands behind it
    pair : (d : ℕ) {b : ℕ} {after : Cursor} → eat_if_of t next d ≡ char_taken b after
        → Took t (from.at + took.width) (advanced (advanced from.place)) d after
    pair d f =
        let k = if_took t next d f in
        rw (← k.1, ← ap (λ (x : Cursor). x.at) took.stands, ← ap (λ (x : Cursor). x.place) took.stands) (ate_took t next k.0)

    pub slash : c ≡ 0x2F → eat_if_of t next 0x2A ≡ None → led_on level next ≡ as_led (move_of t level from)
    unfolding move_of comment_turn
    slash h f = rw took.stands (sym (ap as_led (one_on comment_rule t from.at here took.found (rw (eq-eqb c 0x2F h, next_not 0x2A f, ne_eqb c 0x2A (λ q. omega arith), ne_eqb c 0x0A (λ q. omega arith))))))

    pub opens : c ≡ 0x2F → {d : ℕ} {after : Cursor} → eat_if_of t next 0x2A ≡ char_taken d after → led_on (level + 1) after ≡ as_led (move_of t level from)
    unfolding move_of comment_turn
    opens h f =
        let k = pair 0x2A f in
        rw k.stands (sym (ap as_led (two_on comment_rule t from.at here took.found k.found (rw (eq-eqb c 0x2F h, followed t _ 0x2A k.found refl)))))

    pub star : c ≡ 0x2A → eat_if_of t next 0x2F ≡ None → led_on level next ≡ as_led (move_of t level from)
    unfolding move_of comment_turn
    star h f = rw took.stands (sym (ap as_led (one_on comment_rule t from.at here took.found (rw (ne_eqb c 0x2F (λ q. omega arith), eq-eqb c 0x2A h, next_not 0x2F f, ne_eqb c 0x0A (λ q. omega arith))))))

    module _ (h : c ≡ 0x2A) {d : ℕ} {after : Cursor} (f : eat_if_of t next 0x2F ≡ char_taken d after) where
      pub closes_last : level ≡ 1 → led_over 0 after ≡ as_led (move_of t level from)
      unfolding move_of comment_turn widths
      closes_last n =
          let k = pair 0x2F f in
          rw k.stands (sym (ap as_led (is_over comment_rule t from.at here took.found (rw (ne_eqb c 0x2F (λ q. omega arith), eq-eqb c 0x2A h, followed t _ 0x2F k.found refl, eq-eqb level 1 n, chars_char t _ k.found, add-zero)))))

      pub closes : (level ≡ 1 → ⊥) → led_on (level - 1) after ≡ as_led (move_of t level from)
      unfolding move_of comment_turn
      closes n =
          let k = pair 0x2F f in
          rw k.stands (sym (ap as_led (two_on comment_rule t from.at here took.found k.found (rw (ne_eqb c 0x2F (λ q. omega arith), eq-eqb c 0x2A h, followed t _ 0x2F k.found refl, ne_eqb level 1 n)))))

    pub new_line : c ≡ 0x0A → led_on level (cursor next.at (lined next.place)) ≡ as_led (move_of t level from)
    unfolding move_of comment_turn
    new_line h = rw took.stands (sym (ap as_led (one_on comment_rule t from.at here took.found (rw (ne_eqb c 0x2F (λ q. omega arith), ne_eqb c 0x2A (λ q. omega arith), eq-eqb c 0x0A h)))))

    pub plain : (c ≡ 0x2F → ⊥) → (c ≡ 0x2A → ⊥) → (c ≡ 0x0A → ⊥) → led_on level next ≡ as_led (move_of t level from)
    unfolding move_of comment_turn
    plain n m l = rw took.stands (sym (ap as_led (one_on comment_rule t from.at here took.found (rw (ne_eqb c 0x2F n, ne_eqb c 0x2A m, ne_eqb c 0x0A l)))))

-- ---- the loop: a turn that goes on leaves the answer as it is, and one that is over gives it
on_comment : Led → Comment
on_comment (Continue (n, c)) = comment_at n c
on_comment (Break c) = c

on_is : {n m : ℕ} {r s : Cursor} → led_on n s ≡ led_on m r → comment_at n s ≡ comment_at m r
unfolding on_comment
on_is e = ap on_comment e

over_is : {a b : Comment} → ◌≡◌ {A = Led} (Break a) (Break b) → a ≡ b
over_is e = cc

apart {ℓ} : {A : Type ℓ} {m : ℕ} {c : Comment} {r : Cursor} → led_on m r ≡ Break c → A
apart e = absurd (let z : ◌≡◌ {A = ℕ} 0 1 = cc in omega arith)

module _ (t : List ℕ) (level : ℕ) (from : Cursor) (m : ℕ) (next : Cursor) where
  pub goes_on : led_on m next ≡ as_led (move_of t level from) → comment_of t from level ≡ comment_of t next m
  unfolding move_of comment_of
  goes_on e = go (move_of t level from) refl e
    where
      go : (x : Move Inside (Unit {0}) Comment) → move_of t level from ≡ x → led_on m next ≡ as_led x → comment_of t from level ≡ comment_of t next m
      go (on n at o) q h = move_on comment_rule t from.at (here t level from) q ∙ ap (λ (x : Comment). comment_of t x.cursor x.level) (on_is (sym h))
      go (over x) q h = apart h

  pub is_done : led_over m next ≡ as_led (move_of t level from) → comment_of t from level ≡ comment_at m next
  unfolding move_of comment_of
  is_done e = go (move_of t level from) refl e
    where
      go : (x : Move Inside (Unit {0}) Comment) → move_of t level from ≡ x → led_over m next ≡ as_led x → comment_of t from level ≡ comment_at m next
      go (on n at o) q h = apart (sym h)
      go (over x) q h = move_over comment_rule t from.at (here t level from) q ∙ over_is (sym h)

-- ---- characters that only take a column, passed at once
abbrev pub Plain : ℕ → Type 0
Plain c = Other 0x2F 0x2A 0x0A 0x0A 0x0A c

module _ (t : List ℕ) (level : ℕ) (from : Cursor) where
  abbrev after : ℕ → Inside
  after k = inside level (advanced_by k from.place)

  one_passed : (k b c w : ℕ) → look_at t b ≡ char_found c w → Plain c → stretches.Plain comment_rule t after (λ b r. r) k b w
  unfolding comment_turn
  one_passed k b c w e y =
      let n = is_other 0x2F 0x2A 0x0A 0x0A 0x0A c y in
      stretches.plain_turn comment_rule t after (λ b r. r) e (rw (n.0, n.1, n.2, advanced_by_more k from.place)) (λ r. refl)

  module _ {k b : ℕ} (p : StretchOf t Plain from.at k b) {q : Position} (m : q ≡ advanced_by k from.place) where
    pub passes : comment_of t from level ≡ comment_of t (cursor b q) level
    unfolding comment_of
    passes =
        ap (λ (x : Position). run_at comment_rule t from.at (inside level x)) (sym (advanced_by_none from.place))
        ∙ rw m (stretched comment_rule t after (λ b r. r) Plain from.at b (λ k b c w h l. one_passed k b c w) p (omega arith))

    pub passed_fine : LevelFits (length t) level from → LevelFits (length t) level (cursor b q)
    passed_fine f = record { low = f.low; high = omega (arith, f.high, stretch_low p); within = stretch_high p f.within }
