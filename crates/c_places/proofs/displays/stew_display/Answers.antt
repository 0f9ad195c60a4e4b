-- The words of the places given are written, and what that answers is told as a number.
use Rattle.c_places.specs.Forms.{words_of}
use Rattle.c_places.proofs.displays.stew_display.Goals as goal

pub given-p-requires : goal.given-p-requires
given-p-requires c = tt

pub given-q-requires : goal.given-q-requires
given-q-requires c = tt

pub form_of-requires : goal.form_of-requires
form_of-requires c = tt

pub write-requires : goal.write-requires
write-requires c = tt

pub written_as_number-requires : goal.written_as_number-requires
written_as_number-requires c = tt

pub returns : goal.returns
unfolding words_of
returns c = record {
  value = rw (← c.given-p.ensures, ← c.given-q.ensures, ← c.form_of.ensures)
      (rw (c.written_as_number.ensures, c.write.ensures.value));
  out_after = rw (← c.given-p.ensures, ← c.given-q.ensures, ← c.form_of.ensures) c.write.ensures.out_after;
}
