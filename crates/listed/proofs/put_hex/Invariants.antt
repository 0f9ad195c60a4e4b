-- What is still to be put goes where the whole was to go.
use mathlib.Core.Path.{◌≡◌}
use lib.ListN.{length, drop}
use Rattle.listed.specs.Texts.{writing, puts}
use Rattle.listed.specs.Listing.{hexes}
use Rattle.listed.proofs.put_hex.Given as goal

abbrev pub invariant-loop-b : goal.invariant-loop-b
invariant-loop-b l = (length l.out ≡ length l.initial.out) × (puts (writing l.initial.out l.at) (hexes l.bytes) ≡ puts (writing l.out l.n) (hexes (drop l.b-index l.bytes)))
