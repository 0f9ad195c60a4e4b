-- Where a literal that is accepted ends, and how many bytes it has: at an offset or behind it, within the text, behind it where nothing is on record; and four bytes at most for each that it takes, beside those that are held back. Assumes nothing.
use Prim.Native.Nat.{ℕ, ◌+◌, ◌*◌, ◌≤◌, ◌<◌}
use native.Mathlib.Omega.{arith}
use native.Mathlib.Nat.{zero-add, add_assoc}
use mathlib.Core.List.{List, [], ◌∷◌}
use mathlib.Core.Path.{◌≡◌}
use lib.ListN.{length, length-append}
use Rattle.literal.specs.Trace.{Trace, Yield, added, tested, yields, bytes, final, Outcome, good, bad}

-- a reading of n bytes from an offset, where so many are held back
abbrev pub Lands : List ℕ → ℕ → ℕ → ℕ → Outcome → Type 0
Lands t at held n (good e) = (n + 4 * at ≤ held + 4 * e.cursor.at) × (at ≤ length t → e.cursor.at ≤ length t) × (e.on_record.times ≡ 0 → at < e.cursor.at)
Lands t at held n (bad f) = Unit {0}

abbrev pub LandsFrom : List ℕ → ℕ → ℕ → Trace → Type 0
LandsFrom t at held r = Lands t at held (length (bytes r)) (final r)

-- how many bytes a turn adds
abbrev pub size : List Yield → ℕ
size [] = 0
size (added bs ∷ ys) = length bs + size ys
size (tested f ∷ ys) = size ys

module _ (t : List ℕ) where
  -- what is behind an offset is behind every earlier one
  pub earlier : (at to held n : ℕ) → at ≤ to → to ≤ length t → (x : Outcome) → Lands t to held n x → Lands t at held n x
  earlier at to held n h l (good e) (a, b, c) = (omega (arith, a), λ k. b l, λ z. omega (arith, c z))
  earlier at to held n h l (bad f) u = tt

  -- so many bytes more
  heavier : (at held n m : ℕ) (x : Outcome) → Lands t at held n x → Lands t at (m + held) (m + n) x
  heavier at held n m (good e) (a, b, c) = (omega (arith, a), b, c)
  heavier at held n m (bad f) u = tt

  yielded : (at held : ℕ) (ys : List Yield) (r : Trace) → LandsFrom t at held r → LandsFrom t at (size ys + held) (yields ys r)
  unfolding yields bytes final
  yielded at held [] r h = rw (zero-add held) h
  yielded at held (added bs ∷ ys) r h =
      rw (length-append bs (bytes (yields ys r)), add_assoc (length bs) (size ys) held) (heavier at (size ys + held) (length (bytes (yields ys r))) (length bs) (final (yields ys r)) (yielded at held ys r h))
  yielded at held (tested f ∷ ys) r h = yielded at held ys r h

  -- four bytes more may be held back at an earlier offset
  stepped : (at to held more : ℕ) → at < to → to ≤ length t → more ≤ held + 4 → (n : ℕ) (x : Outcome) → Lands t to more n x → Lands t at held n x
  stepped at to held more h l f n (good e) (a, b, c) = (omega (arith, a), λ k. b l, λ z. omega (arith, c z))
  stepped at to held more h l f n (bad g) u = tt

  -- behind a turn fewer bytes are left, and it adds no more than four beside those that were held back
  pub lands_behind : (at to held left : ℕ) (ys : List Yield) (r : Trace) → at < to → to ≤ length t → size ys + left ≤ held + 4 → LandsFrom t to left r → LandsFrom t at held (yields ys r)
  lands_behind at to held left ys r h l f q = stepped at to held (size ys + left) h l f _ (final (yields ys r)) (yielded to left ys r q)
