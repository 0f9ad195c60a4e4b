-- Each stretch ends where the definition says: proofs/Ends.antt.
use Rattle.chars.proofs.stretch.Ends.{is_end}
use Rattle.chars.proofs.stretch.end_of.Goals as goal

pub returns-in-Word : goal.returns-in-Word
returns-in-Word c = record { value = (is_end _ _ c.in-Word.is _ c.word.ensures c.behind.ensures).0; at_le_at = (is_end _ _ c.in-Word.is _ c.word.ensures c.behind.ensures).1 }

pub returns-in-Line : goal.returns-in-Line
returns-in-Line c = record { value = (is_end _ _ c.in-Line.is _ c.line.ensures c.behind-in-Line.ensures).0; at_le_at = (is_end _ _ c.in-Line.is _ c.line.ensures c.behind-in-Line.ensures).1 }
