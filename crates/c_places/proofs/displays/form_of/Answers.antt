-- Each arm is the form of its number.
use Rattle.c_places.proofs.displays.Forms.{is_display, is_debug, is_span}
use Rattle.c_places.proofs.displays.form_of.Goals as goal

pub new-requires : goal.new-requires
new-requires c = tt

pub returns-in-0 : goal.returns-in-0
returns-in-0 c = let given = c.args in is_display _ given.p given.q c.in-0.is

pub returns-in-1 : goal.returns-in-1
returns-in-1 c = let given = c.args in is_debug _ given.p given.q c.in-1.is

pub returns-in_default : goal.returns-in_default
returns-in_default c = let rest = c.in_default.in_default-own.rest in rw c.new.ensures (is_span _ _ _ rest.0.1 rest.1)
