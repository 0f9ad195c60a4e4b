-- The bytes so far, and what is still to be spelt behind them, are the number's bytes.
use Prim.Native.Nat.{◌-◌}
use mathlib.Core.List.{◌++◌}
use mathlib.Core.Path.{◌≡◌}
use lib.ListN.{take}
use Rattle.numbers.specs.Spell.{spell}
use Rattle.numbers.proofs.put.Given as goal

abbrev pub invariant-loop-byte : goal.invariant-loop-byte
invariant-loop-byte l = take l.byte-index l.byte-items ++ spell (l.width - l.byte-index) l.rest ≡ spell l.width l.n
