-- The theorem: every row of the table holds. It is computed from the definitions. Assumes nothing.
use mathlib.Core.Path.{refl}
use Rattle.basis.specs.Store.{fits, stored, after}
use Rattle.chars.specs.Scan.{widths}
use Rattle.literal.specs.Cut.{wrote}
use Rattle.literal.proofs.Computes.{the_places, the_characters, the_readings}
use Rattle.escape.proofs.Computes.{the_escapes}
use Rattle.string_turn.proofs.Computes.{the_takes, the_acts}
use Rattle.string.proofs.Computes.{the_string_rules, the_string_entry}
use Rattle.raw.proofs.Computes.{the_raw_rules, the_raw_entries}
use Rattle.lent.specs.Written.{written_of, left_of}
use Rattle.raw_writer.specs.Writer.{hashes_ahead, most_after_quote, hashes_for, raw_literal_of, raw_write_of, raw_left_of}
use Rattle.comment.specs.Block.{comment_turn, comment_of, comment_refuses, scan_block_comment_of}
use Rattle.promises.specs.Table.{CheckedExamples}

-- what a write is computed with
the_writes : Unit {0}
unfolding fits stored after written_of left_of wrote hashes_ahead most_after_quote hashes_for raw_literal_of raw_write_of raw_left_of
the_writes = tt

-- and a comment
the_comments : Unit {0}
unfolding widths comment_turn comment_of comment_refuses scan_block_comment_of
the_comments = tt

pub checked_examples : CheckedExamples
unfolding the_places the_characters the_readings the_escapes the_takes the_acts the_string_rules the_string_entry the_raw_rules the_raw_entries the_comments the_writes
checked_examples = refl
