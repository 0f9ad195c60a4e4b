-- The lines that are left go where all were to go.
use Prim.Native.Nat.{◌-◌, ◌*◌}
use mathlib.Core.Path.{◌≡◌}
use lib.ListN.{length, drop}
use Rattle.listed.specs.Texts.{writing, puts}
use Rattle.listed.specs.Listing.{entries_lines}
use Rattle.listed.proofs.put_entries.Given as goal

abbrev pub invariant-loop-n : goal.invariant-loop-n
invariant-loop-n l =
    (length l.out ≡ length l.initial.out)
    × (puts (writing l.initial.out 0) (entries_lines l.script l.literals l.listed l.entries) ≡ puts (writing l.out l.at) (entries_lines l.script l.literals (l.listed - l.n) (drop (5 * l.n) l.entries)))
