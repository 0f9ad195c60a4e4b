-- Behind the underscores stands a letter or not, and the rest goes on or not.
use native.Mathlib.Omega.{arith}
use mathlib.Core.Path.{sym, ◌∙◌}
use Rattle.identifier.proofs.valid.Valids.{letter, no_letter, nothing_left}
use Rattle.identifier.proofs.valid.is_valid_identifier.Goals as goal

pub returns-then-name-i : goal.returns-then-name-i
returns-then-name-i c = sym (nothing_left _ _ c.if-name-i.true c.underscores-i.ensures.0)

pub overflow_cast-name : goal.overflow_cast-name
overflow_cast-name c = omega (arith, c.shared_slice_known-2-1.given c.underscores-i.result)

pub returns-then-is_id_first_alphabetic : goal.returns-then-is_id_first_alphabetic
returns-then-is_id_first_alphabetic c =
    c.goes_on.ensures
    ∙ sym (letter _ _ c.if-name-i.false c.underscores-i.ensures.0 (sym c.is_id_first_alphabetic.ensures ∙ c.if-is_id_first_alphabetic.true))

pub returns : goal.returns
returns c =
    sym (no_letter _ _ c.if-name-i.false c.underscores-i.ensures.0 (sym c.is_id_first_alphabetic.ensures ∙ c.if-is_id_first_alphabetic.false))
