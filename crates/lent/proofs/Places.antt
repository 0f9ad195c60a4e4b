-- A place of lent memory, from one index to another, that was written whole. Assumes nothing.
use Prim.Native.Nat.{ℕ, ◌+◌, ◌-◌, ◌≤◌}
use native.Mathlib.Omega.{arith}
use mathlib.Core.List.{List, append_assoc}
use mathlib.Core.Path.{◌≡◌, sym, ◌∙◌}
use lib.ListN.{length, take, drop}
use lib.Seq.{sets-eq, drop-drop}
use borrow.Rule.Slice.PartMut.{put_mid}
use Rattle.basis.specs.Store.{stored, after}
use Rattle.basis.proofs.Stores.{stored_whole, after_whole}

module _ (l : List ℕ) (at end : ℕ) (ys : List ℕ) (e : end ≡ at + length ys) (h : end ≤ length l) where
  -- the memory then
  pub placed : (zs : List ℕ) → zs ≡ ys → put_mid at (end - at) l zs ≡ stored l at ys
  placed zs f =
      let k : end - at ≡ length ys = omega arith in
      rw (f, k, drop-drop (length ys) at l) (sym (stored_whole l at ys (omega arith) ∙ sets-eq ys l at (omega arith) ∙ append_assoc (take at l) ys (drop (at + length ys) l)))

  -- and the index after it
  pub placed_end : end ≡ after l at ys
  placed_end = e ∙ sym (after_whole l at ys (omega arith))
