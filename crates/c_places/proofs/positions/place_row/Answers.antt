-- Each number is what its call answers of the place given.
use Rattle.c_places.specs.Rows.{place_row}
use Rattle.c_places.proofs.positions.place_row.Goals as goal

pub returns : goal.returns
unfolding place_row
returns c =
    let place = c.given-p.ensures in
    rw (
      c.placed_as_number.ensures,
      c.new.ensures,
      c.coordinate_as_number.ensures,
      c.line.ensures,
      c.coordinate_as_number-2.ensures,
      c.position.ensures,
      c.is_beginning_of_line.ensures,
      c.is_none.ensures,
      c.placed_as_number-2.ensures,
      c.advance.ensures,
      c.placed_as_number-3.ensures,
      c.rewind.ensures,
      c.placed_as_number-4.ensures,
      c.new_line.ensures,
      place,
    )
