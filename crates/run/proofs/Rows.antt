-- Entries in the memory lent for them, by how one of them is laid out. Assumes nothing.
use Prim.Native.Nat.{ℕ, ◌+◌, ◌-◌, ◌*◌, ◌/◌, ◌≤◌, ◌<◌}
use native.Mathlib.Omega.{arith}
use native.Mathlib.Nat.{le_trans, mul-le-mul_right, mul-add, mul-one, suc-mul, mul_comm, div-mul-le_self}
use mathlib.Core.List.{List, append_assoc}
use mathlib.Core.Path.{◌≡◌, sym}
use lib.ListN.{length, take, drop}
use Rattle.std.proofs.Common.{drop-drop}
use lib.Seq.{sets, sets-eq}
use borrow.Rule.Slice.PartMut.{put_mid}
use Rattle.lent.specs.Written.{left_of}
use Rattle.lent.proofs.Writes.{written}
use Rattle.numbers.specs.Spell.{spelled}
use Rattle.entry.specs.Entries.{numbers_of, laid_out}
use Rattle.entry.specs.declared.Entry.{Entry}
use Rattle.entry.proofs.Layouts.{laid_length}
use Rattle.turn.proofs.Literals.{part_room, part_over}
use Rattle.run.specs.Bytes.{entry_bytes}
pub use Rattle.run.specs.Widths.{five, twenty}

-- numbers that are copied to a part of the memory
pub copied : (es xs : List ℕ) (at k : ℕ) → at + k ≤ length es → length xs ≡ k → put_mid at k es xs ≡ sets es at xs
copied es xs at k h q = rw (sets-eq xs es at (rw q h), q, drop-drop k at es) (sym (append_assoc (take at es) xs (drop (at + k) es)))

-- an entry in its part of the memory
module _ (es : List ℕ) (at : ℕ) (e : Entry) (h : at + 20 ≤ length es) where
  abbrev k : ℕ
  k = length es - at

  fits : at + length (entry_bytes e) ≤ length es
  fits = rw (twenty e) h

  pub entry_stored : (row : List ℕ) → row ≡ numbers_of e → put_mid at k es (left_of (spelled 4 row) (take k (drop at es))) ≡ sets es at (entry_bytes e)
  unfolding entry_bytes
  entry_stored row q = rw (q, written (spelled 4 (numbers_of e)) (take k (drop at es)) (part_room es at (spelled 4 (numbers_of e)) fits)) (part_over es at (spelled 4 (numbers_of e)) fits)

-- of any layout that takes w numbers for each entry
module _ (laid : Entry → List ℕ) (w : ℕ) (wide : (e : Entry) → length (laid e) ≡ w) where
  -- the next entry stands behind it
  pub entry_next : (n : ℕ) (e : Entry) → w * n + length (laid e) ≡ w * (n + 1)
  entry_next n e = rw (wide e, mul-add w n 1, mul-one w)

  -- as many as there is room for fit the memory
  pub entries_fit : (es : List Entry) (m room : ℕ) → room ≡ m / w → length es ≤ room → length (laid_out laid es) ≤ m
  entries_fit es m room q h = rw (laid_length laid w wide es) (le_trans (mul-le-mul_right w (rw q at h)) (div-mul-le_self m w))

  -- and one more, where there are fewer
  pub entry_room : (n m room : ℕ) → room ≡ m / w → n < room → w * n + w ≤ m
  entry_room n m room q h = omega (arith, le_trans (mul-le-mul_right w (rw q at h)) (div-mul-le_self m w), suc-mul n w, mul_comm n w)
