-- Where a stretch ends, for each way through the loop. Assumes nothing.
use Rattle.std.specs.Prelude.{None, Some}
use Prim.Native.Char.{code}
use Prim.Native.Nat.{ℕ, ◌+◌, ◌≤◌, ◌<◌}
use native.Mathlib.Omega.{arith}
use mathlib.Core.Bool.{Bool, true, false}
use mathlib.Core.List.{List}
use mathlib.Core.Logic.{⊎_elim}
use mathlib.Core.Path.{◌≡◌, refl, sym, ap, ◌∙◌}
use Rattle.std.proofs.lemmas.Option.{some_pair_parts}
use lib.ListN.{length, get_or}
use borrow.Author.Tests.{eq-eqb, ne_eqb}
use Rattle.basis.proofs.Bounds.{split}
use Rattle.basis.proofs.Cases.{not_both}
use Rattle.position.specs.declared.Position.{Position}
use Rattle.position.specs.Place.{advanced, advanced_by}
use Rattle.position.proofs.Moves.{advanced_by_none, advanced_by_more}
use Rattle.utf8.specs.Table.{◌‥◌, look_at}
use Rattle.utf8.specs.Looks.{Look, char_found}
use Rattle.utf8.proofs.Ranges.{is_above}
use Rattle.utf8.proofs.Bits.{look_ascii}
use Rattle.utf8.proofs.Laws.{at_width, by_chars}
use Rattle.utf8.proofs.Widths.{at_high}
use Rattle.classes.specs.Class.{is_numeric_digit, is_id_first_alphabetic, is_id_continue}
use Rattle.chars.specs.Cursors.{cursor}
use Rattle.chars.specs.Scan.{run_at}
use Rattle.chars.specs.declared.cursor.Cursor.{Cursor}
use Rattle.chars.specs.Stretch as stretch
use Rattle.chars.proofs.Stretches.{Plain, plain_turn, stretched}
use Rattle.chars.proofs.Scans.{move_on, move_over, at_end_lem, one_on, is_over}
use Rattle.chars.specs.Ends.{goes_on_in, stretch_rule, stretch_end}
use Rattle.chars.specs.Passing.{Goes, Ends}
use Rattle.chars.specs.declared.stretch.Stretch.{Stretch}
use Rattle.chars.specs.declared.stretch.Stretch.TheVariants.{Word, Line}

-- ---- what goes on, as the code asks
pub word_goes : (c : ℕ) {b : Bool} → b ≡ is_id_continue c → {v : Bool} → b ≡ v → goes_on_in Word c ≡ v
unfolding goes_on_in
word_goes c e y = sym e ∙ y

pub line_goes : (c : ℕ) → (c ≡ 0x0A → ⊥) → goes_on_in Line c ≡ true
unfolding goes_on_in
line_goes c n = rw (ne_eqb c 0x0A n)

pub line_stops : (c : ℕ) → c ≡ 0x0A → goes_on_in Line c ≡ false
unfolding goes_on_in
line_stops c e = rw (eq-eqb c 0x0A e)

-- no word goes on above 7F
word_high : (c : ℕ) → 0x80 ≤ c → goes_on_in Word c ≡ false
unfolding goes_on_in is_id_continue is_id_first_alphabetic is_numeric_digit
word_high c h =
    rw (
      is_above (code "A" ‥ code "Z") c (omega arith),
      is_above (code "a" ‥ code "z") c (omega arith),
      is_above (code "0" ‥ code "9") c (omega arith),
      ne_eqb c (code "_") (λ q. omega arith),
    )

-- ---- where it stops
char_is : {c d v w : ℕ} → char_found c w ≡ char_found d v → c ≡ d
char_is {c} {d} {v} {w} e = (some_pair_parts c d w v e).0

no_char_lem {ℓ} : {A : Type ℓ} {d v : ℕ} → None ≡ char_found d v → A
no_char_lem e = absurd (let z : ◌≡◌ {A = ℕ} 0 1 = cc in omega arith)

module _ (what : Stretch) (t : List ℕ) {a k b : ℕ} (p : stretch.StretchOf t (Goes what) a k b) where
  pub ends_there : look_at t b ≡ None → Ends what t a k b
  ends_there e = record { passed = p; stops = λ c w f. no_char_lem (sym e ∙ f) }

  pub stops_there : {c w : ℕ} → look_at t b ≡ char_found c w → goes_on_in what c ≡ false → Ends what t a k b
  stops_there e n = record { passed = p; stops = λ d v f. ap (goes_on_in what) (sym (char_is (sym e ∙ f))) ∙ n }

-- ---- by the byte at an offset
module _ (t : List ℕ) (at : ℕ) (h : at < length t) where
  -- one that a word goes on with is a character
  pub word_byte : goes_on_in Word (get_or t at 0) ≡ true → look_at t at ≡ char_found (get_or t at 0) 1
  word_byte y = ⊎_elim (λ g. sym (look_ascii t at h 1 g refl)) (λ g. not_both y (word_high (get_or t at 0) g)) (split (get_or t at 0) 0x80)

  -- any other begins no character that it goes on with
  pub word_stops : {k a : ℕ} → goes_on_in Word (get_or t at 0) ≡ false → stretch.StretchOf t (Goes Word) a k at → Ends Word t a k at
  word_stops n p = record { passed = p; stops = λ c w f. ⊎_elim (λ g. low c w g f) (λ g. word_high c (at_high t at g f)) (split (get_or t at 0) 0x80) }
    where
      low : (c w : ℕ) → get_or t at 0 < 0x80 → look_at t at ≡ char_found c w → goes_on_in Word c ≡ false
      low c w g f = ap (goes_on_in Word) (sym (char_is (look_ascii t at h 1 g refl ∙ f))) ∙ n

module _ (what : Stretch) (t : List ℕ) (s : Cursor) where
  -- behind k characters that go on
  abbrev after : ℕ → Position
  after k = advanced_by k s.place

  plain : (k b c w : ℕ) → look_at t b ≡ char_found c w → Goes what c → Plain (stretch_rule what) t after (λ b r. r) k b w
  plain k b c w e y = plain_turn (stretch_rule what) t after (λ b r. r) e (rw (y, advanced_by_more k s.place)) (λ r. refl)

  passed : {k b : ℕ} → stretch.StretchOf t (Goes what) s.at k b → stretch_end what t s ≡ run_at (stretch_rule what) t b (after k)
  unfolding stretch_end
  passed {k} {b} p =
      ap (run_at (stretch_rule what) t s.at) (sym (advanced_by_none s.place))
      ∙ stretched (stretch_rule what) t after (λ b r. r) (Goes what) s.at b (λ k b c w h l. plain k b c w) p (omega arith)

  ended : {k b : ℕ} → Ends what t s.at k b → stretch_end what t s ≡ cursor b (after k)
  ended {k} {b} e = passed e.passed ∙ by (look_at t b) refl
    where
      by : (x : Look) → look_at t b ≡ x → run_at (stretch_rule what) t b (after k) ≡ cursor b (after k)
      by (Some (c, w)) f = move_over (stretch_rule what) t b (after k) (is_over (stretch_rule what) t b (after k) f (rw (e.stops c w f)))
      by None f = move_over (stretch_rule what) t b (after k) (at_end_lem (stretch_rule what) t b (after k) f)

-- ---- where it ends: at its start or behind it, within the text
module _ (what : Stretch) (t : List ℕ) where
  abbrev Reached : ℕ → Position → Type 0
  Reached at p = (at ≤ (run_at (stretch_rule what) t at p).at) × (at ≤ length t → (run_at (stretch_rule what) t at p).at ≤ length t)

  every : (at : ℕ) (p : Position) → Reached at p
  every =
      by_chars t (λ at. (p : Position) → Reached at p)
      (λ at e p. rw (move_over (stretch_rule what) t at p (at_end_lem (stretch_rule what) t at p e)) (omega arith, λ h. h))
      (λ at c w e ih p. turned at c w e ih p (goes_on_in what c) refl)
    where
      turned : (at c w : ℕ) → look_at t at ≡ char_found c w → ((p : Position) → Reached (at + w) p) → (p : Position) (b : Bool) → goes_on_in what c ≡ b → Reached at p
      turned at c w e ih p true y =
          let h = at_width t at e in
          let r = ih (advanced p) in
          rw (move_on (stretch_rule what) t at p {n = tt} {s' = advanced p} (one_on (stretch_rule what) t at p e (rw y))) (omega (arith, r.0), λ l. r.1 h.1)
      turned at c w e ih p false n = rw (move_over (stretch_rule what) t at p {r = cursor at p} (is_over (stretch_rule what) t at p e (rw n))) (omega arith, λ h. h)

  pub end_reached : (s : Cursor) → (s.at ≤ (stretch_end what t s).at) × (s.at ≤ length t → (stretch_end what t s).at ≤ length t)
  unfolding stretch_end
  end_reached s = every s.at s.place

  pub is_end : {v : Stretch} → what ≡ v → (s : Cursor) {k b : ℕ} → Ends v t s.at k b → {r : Cursor} → r ≡ cursor b (advanced_by k s.place)
      → (r ≡ stretch_end what t s) × ((s.at ≤ r.at) × (s.at ≤ length t → r.at ≤ length t))
  is_end m s {k} {b} e q =
      let f : Ends what t s.at k b = rw m e in
      let z = q ∙ sym (ended what t s f) in
      (z, rw z (end_reached s))
