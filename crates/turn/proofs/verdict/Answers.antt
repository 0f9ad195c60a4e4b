-- Each test by its law.
use native.Mathlib.Omega.{arith}
use mathlib.Core.Bool.{Bool, true, false}
use Rattle.std.proofs.lemmas.Bool.{not-true, not-false}
use mathlib.Core.Path.{◌≡◌, sym, ◌∙◌}
use Rattle.turn.proofs.Literals.{still_open_lem, too_deep_lem, fine_piece, fine_char, no_char_lem, fine_other}
use Rattle.turn.proofs.verdict.Goals as goal
use Rattle.turn.proofs.verdict.Goals.{else-read-via-then-read+else-level-ge16, else-read-via-else-read, else-not-read-via-then-not-read+then-read-eq-APOSTROPHE+else-not-is_one_character, else-not-read-via-then-not-read+else-read-eq-APOSTROPHE, else-not-read-via-else-not-read}

pub returns-then-read-ne0 : goal.returns-then-read-ne0
returns-then-read-ne0 c = rw c.at.ensures (sym (still_open_lem _ _ _ _ _ c.if-read-ne0.true))

pub returns-then-level-ge16 : goal.returns-then-level-ge16
returns-then-level-ge16 c =
    rw c.at-then-level-ge16.ensures (sym (too_deep_lem _ _ _ _ _ c.if-read-ne0.false c.if-read.true c.if-level-ge16.true))

pub is_one_character-requires : goal.is_one_character-requires
is_one_character-requires c = (c.if-read-eq-APOSTROPHE.true, c.requires.0, c.requires.1 (λ z. omega (arith, z, c.if-read-eq-APOSTROPHE.true)))

pub returns-then-not-is_one_character : goal.returns-then-not-is_one_character
returns-then-not-is_one_character c =
    rw c.at-then-not-is_one_character.ensures (sym (no_char_lem _ _ _ _ _ c.if-read-ne0.false (not-true _ c.if-not-read.true) c.if-read-eq-APOSTROPHE.true (sym c.is_one_character.ensures ∙ c.if-not-is_one_character.true)))

pub returns-else-not-read : goal.returns-else-not-read
returns-else-not-read c =
    elim c.else-not-read.branch [
      | else-not-read-via-then-not-read+then-read-eq-APOSTROPHE+else-not-is_one_character w ↦ sym (fine_char _ _ _ _ _ c.if-read-ne0.false (not-true _ w.if-not-read.true) w.if-read-eq-APOSTROPHE.true (sym w.is_one_character.ensures ∙ w.if-not-is_one_character.false))
      | else-not-read-via-then-not-read+else-read-eq-APOSTROPHE w ↦ sym (fine_other _ _ _ _ _ c.if-read-ne0.false (not-true _ w.if-not-read.true) w.if-read-eq-APOSTROPHE.false)
      | else-not-read-via-else-not-read w ↦ sym (elim c.else-read.branch [
        | else-read-via-then-read+else-level-ge16 v ↦ fine_piece _ _ _ _ _ c.if-read-ne0.false v.if-read.true v.if-level-ge16.false
        | else-read-via-else-read v ↦ absurd (let z : ◌≡◌ {A = Bool} true false = sym (not-false _ w.if-not-read.false) ∙ v.if-read.false in cc)
      ])
    ]
