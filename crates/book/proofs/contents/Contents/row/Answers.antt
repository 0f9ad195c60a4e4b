-- A row holds offset u16, length u8 and flags u8, and the offset is counted from the bodies, behind the contents. Assumes nothing.
use mathlib.Core.Path.{refl}
use Rattle.book.proofs.contents.Parts.{row_read}
use Rattle.book.proofs.contents.Contents.row.Goals as goal

pub returns-clause-value : goal.returns-clause-value
returns-clause-value c = row_read _ _ _ _ _ c.args.self.counted c.u16_at-offset.ensures.value refl refl refl
