-- What taking a character tells of the text: the look that found it, and the cursor behind it. Assumes nothing.
use Rattle.chars.specs.Takes.{char_taken}
use Rattle.std.specs.Prelude.{None, Some}
use Prim.Native.Nat.{ℕ, ◌+◌, ◌≤◌, ◌<◌}
use native.Mathlib.Omega.{arith}
use mathlib.Core.List.{List}
use mathlib.Core.Path.{◌≡◌, refl, sym, ap, ◌∙◌}
use Rattle.std.proofs.lemmas.Option.{some_pair_parts}
use Rattle.position.specs.declared.Position.{Position}
use Rattle.position.specs.Place.{advanced}
use lib.ListN.{length}
use Rattle.utf8.specs.Table.{look_at}
use Rattle.utf8.proofs.Laws.{at_width}
use Rattle.utf8.specs.Looks.{Look, char_found}
use Rattle.chars.specs.Cursors.{cursor, taken_on, get_next_of, eat_next_of}
use Rattle.chars.specs.declared.cursor.Cursor.{Cursor}

-- from the look to the answer
module _ (t : List ℕ) (s : Cursor) where
  module _ {c w : ℕ} (e : look_at t s.at ≡ char_found c w) where
    pub got : get_next_of t s ≡ char_taken c (cursor (s.at + w) s.place)
    unfolding get_next_of
    got = rw e

    pub ate : eat_next_of t s ≡ char_taken c (cursor (s.at + w) (advanced s.place))
    unfolding eat_next_of
    ate = rw e

  module _ (e : look_at t s.at ≡ None) where
    pub got_none : get_next_of t s ≡ None
    unfolding get_next_of
    got_none = rw e

    pub ate_none : eat_next_of t s ≡ None
    unfolding eat_next_of
    ate_none = rw e

char_is : {c d : ℕ} {s r : Cursor} → char_taken d r ≡ char_taken c s → d ≡ c
char_is {c} {d} {s} {r} e = (some_pair_parts d c r s e).0

cursor_is : {c d : ℕ} {s r : Cursor} → char_taken d r ≡ char_taken c s → s ≡ r
cursor_is {c} {d} {s} {r} e = sym (some_pair_parts d c r s e).1

no_char_lem {ℓ} : {A : Type ℓ} {c : ℕ} {s : Cursor} → None ≡ char_taken c s → A
no_char_lem e = absurd (let z : ◌≡◌ {A = ℕ} 0 1 = cc in omega arith)

no_end {ℓ} : {A : Type ℓ} {c : ℕ} {s : Cursor} → char_taken c s ≡ None → A
no_end e = absurd (let z : ◌≡◌ {A = ℕ} 0 1 = cc in omega arith)

-- from the answer to the look: a character c of some width was found at the offset, and the cursor now stands behind it, at the place p
pub record Took (t : List ℕ) (at : ℕ) (p : Position) (c : ℕ) (next : Cursor) : Type 0 where
  pub width : ℕ
  pub found : look_at t at ≡ char_found c width
  pub stands : next ≡ cursor (at + width) p

module _ (t : List ℕ) (at : ℕ) (p : Position) where
  took_on : {c : ℕ} {next : Cursor} (x : Look) → look_at t at ≡ x → taken_on at p x ≡ char_taken c next → Took t at p c next
  took_on (Some (d, w)) e q = record { width = w; found = e ∙ ap (λ (n : ℕ). char_found n w) (char_is q); stands = cursor_is q }
  took_on None e q = no_char_lem q

  ended_on : (x : Look) → look_at t at ≡ x → taken_on at p x ≡ None → look_at t at ≡ None
  ended_on (Some (d, w)) e q = no_end q
  ended_on None e q = e

module _ (t : List ℕ) (s : Cursor) where
  pub got_took : {c : ℕ} {next : Cursor} → get_next_of t s ≡ char_taken c next → Took t s.at s.place c next
  unfolding get_next_of
  got_took q = took_on t s.at s.place (look_at t s.at) refl q

  pub ate_took : {c : ℕ} {next : Cursor} → eat_next_of t s ≡ char_taken c next → Took t s.at (advanced s.place) c next
  unfolding eat_next_of
  ate_took q = took_on t s.at (advanced s.place) (look_at t s.at) refl q

  pub got_ended : get_next_of t s ≡ None → look_at t s.at ≡ None
  unfolding get_next_of
  got_ended q = ended_on t s.at s.place (look_at t s.at) refl q

  pub ate_ended : eat_next_of t s ≡ None → look_at t s.at ≡ None
  unfolding eat_next_of
  ate_ended q = ended_on t s.at (advanced s.place) (look_at t s.at) refl q

-- to eat a character is to take it at the place one column on
pub ate_got : (t : List ℕ) (s : Cursor) {p : Position} → p ≡ advanced s.place → get_next_of t (cursor s.at p) ≡ eat_next_of t s
unfolding get_next_of eat_next_of
ate_got t s e = rw e

-- a cursor behind a character stands further on, within the text
module _ (t : List ℕ) (at : ℕ) (p : Position) {c : ℕ} {next : Cursor} (k : Took t at p c next) where
  pub further : (at < next.at) × (next.at ≤ length t)
  further = rw k.stands (omega (arith, at_width t at k.found))
