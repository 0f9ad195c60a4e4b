-- What each sign begins. A comment's two characters are within the script.
use mathlib.Core.Path.{sym, ◌∙◌}
use Rattle.find.specs.Find.{line_comment}
use Rattle.find.proofs.Begins.{block_within, signed}
use Rattle.find.proofs.mark.Goals as goal

pub block-requires : goal.block-requires
block-requires c =
    block_within _ _ _ (sym c.sign_at.ensures ∙ c.in-Block.is)

pub returns-in-Literal : goal.returns-in-Literal
returns-in-Literal c =
    sym (signed _ _ _ _ _ (sym c.sign_at.ensures ∙ c.in-Literal.is))

pub returns-in-Line : goal.returns-in-Line
unfolding line_comment
returns-in-Line c =
    rw (c.end_of.ensures.value, c.advanced.ensures) (sym (signed _ _ _ _ _ (sym c.sign_at.ensures ∙ c.in-Line.is)))

pub returns-in-Block : goal.returns-in-Block
returns-in-Block c =
    c.block.ensures ∙ rw c.advanced-in-Block.ensures (sym (signed _ _ _ _ _ (sym c.sign_at.ensures ∙ c.in-Block.is)))

pub returns-in-Symbol : goal.returns-in-Symbol
returns-in-Symbol c =
    c.symbol.ensures ∙ sym (signed _ _ _ _ _ (sym c.sign_at.ensures ∙ c.in-Symbol.is))
