-- A text that has room stands in the memory whole. Assumes nothing.
use Prim.Native.Nat.{ℕ, ◌+◌, ◌≤◌}
use native.Mathlib.Omega.{arith}
use native.Mathlib.Nat.{add-zero, zero-add, add_assoc}
use mathlib.Core.List.{List, [], ◌∷◌}
use mathlib.Core.Path.{◌≡◌, ◌∙◌}
use lib.ListN.{length, length-append}
use lib.Seq.{sets, length-sets}
use Rattle.basis.specs.Store.{over}
use Rattle.basis.proofs.Stores.{sets_append, sets_front, stored_whole, after_whole}
use Rattle.listed.specs.Texts.{writing, put, puts, joined}

-- pieces that have room from an index on
from_index : (l : List ℕ) (i : ℕ) (xss : List (List ℕ)) → i + length (joined xss) ≤ length l → puts (writing l i) xss ≡ writing (sets l i (joined xss)) (i + length (joined xss))
unfolding put puts joined
from_index l i [] h = rw add-zero
from_index l i (xs ∷ xss) h =
    let long = length-append xs (joined xss) in
    let whole : i + length xs ≤ length l = omega arith in
    rw (stored_whole l i xs whole, after_whole l i xs whole, sets_append l i xs (joined xss), long, ← add_assoc i (length xs) (length (joined xss)))
    (from_index (sets l i xs) (i + length xs) xss (rw (length-sets l i xs) (omega arith)))

pub whole_text : (l : List ℕ) (xss : List (List ℕ)) → length (joined xss) ≤ length l → puts (writing l 0) xss ≡ writing (over (joined xss) l) (length (joined xss))
whole_text l xss h = from_index l 0 xss (omega arith) ∙ rw (sets_front l (joined xss) h, zero-add)
