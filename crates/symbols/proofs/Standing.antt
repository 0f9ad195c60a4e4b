-- What stands at an offset of a text is what stands at the front of the part from there on. Assumes nothing.
use Prim.Native.Nat.{ℕ, ◌-◌, ◌≤◌}
use native.Mathlib.Omega.{arith}
use mathlib.Core.Path.{◌≡◌}
use mathlib.Core.List.{List}
use lib.ListN.{length, take, drop, length-drop}
use lib.Seq.{take_all}
use Rattle.symbols.specs.Symbols.{longest_of, longest_symbol_of}
use Rattle.symbols.specs.Found.{Longest}

pub from_offset : (s : List ℕ) (at : ℕ) (r : Longest) → r ≡ longest_of (take (length s - at) (drop at s)) → r ≡ longest_symbol_of s at
unfolding longest_symbol_of
from_offset s at r e =
    let l : length (drop at s) ≤ length s - at = rw length-drop (omega arith) in
    rw (take_all (length s - at) (drop at s) l) at e
