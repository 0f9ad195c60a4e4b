-- Each number is what its call answers of the two places, or of the span between them.
use Rattle.c_places.specs.Rows.{pair_row}
use Rattle.c_places.proofs.positions.pair_row.Goals as goal

pub returns : goal.returns
unfolding pair_row
returns c =
    let span = c.new-span.ensures in
    rw (
      c.pack.ensures,
      c.or_else.ensures,
      c.placed_as_number.ensures,
      c.sum.ensures,
      c.pack-2.ensures,
      c.start.ensures,
      c.pack-3.ensures,
      c.end.ensures,
      c.is_none.ensures,
      span,
    )
