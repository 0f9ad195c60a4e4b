-- The first byte says how many further bytes there are, or that no character begins with it.
use native.Mathlib.Omega.{arith}
use mathlib.Core.Path.{sym, ◌∙◌}
use Rattle.utf8.proofs.Bits.{look_inside, look_beyond, sized_look}
use Rattle.utf8.proofs.longer.Goals as goal

pub returns-in-192-to-223 : goal.returns-in-192-to-223
returns-in-192-to-223 c = c.sized.ensures ∙ sized_look _ _ 1 (omega arith) (omega arith) (omega arith) (omega arith) (omega arith)

pub returns-in-224-to-239 : goal.returns-in-224-to-239
returns-in-224-to-239 c = c.sized-in-224-to-239.ensures ∙ sized_look _ _ 2 (omega arith) (omega arith) (omega arith) (omega arith) (omega arith)

pub returns-in-240-to-247 : goal.returns-in-240-to-247
returns-in-240-to-247 c = c.sized-in-240-to-247.ensures ∙ sized_look _ _ 3 (omega arith) (omega arith) (omega arith) (omega arith) (omega arith)

pub returns-in_default : goal.returns-in_default
returns-in_default c = sym (look_inside c.args.a _ (omega arith) (omega arith))

pub returns-in_default-2 : goal.returns-in_default-2
returns-in_default-2 c = sym (look_beyond c.args.a _ (omega arith))
