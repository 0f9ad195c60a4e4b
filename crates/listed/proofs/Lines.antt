-- The lines of a listing, piece by piece. Assumes nothing.
use Prim.Native.Nat.{ℕ, zero, suc, ◌+◌, ◌-◌, ◌*◌, ◌/◌, ◌%◌, ◌≤◌, ◌<◌, min}
use native.Mathlib.Omega.{arith}
use mathlib.Core.List.{List, [], ◌∷◌, ◌++◌}
use mathlib.Core.Path.{◌≡◌, refl, sym, ◌∙◌}
use lib.ListN.{length, get_or, take, drop, length-drop}
use lib.Seq.{drop-drop, take-length}
use Rattle.basis.specs.Words.{word}
use Rattle.basis.proofs.Bytes.{here, past}
use borrow.Author.Tests.{le-leb, lt-leb}
use Rattle.position.specs.Place.{given}
use Rattle.position.specs.declared.Position.{Position}
use Rattle.display.specs.Forms.{debug_of}
use Rattle.display.specs.Decimal.{digit, decimal}
use Rattle.display.proofs.Decimals.{decimal_one, decimal_more}
use Rattle.listed.specs.Texts.{Writing, put, puts}
use Rattle.listed.specs.Listing.{hex_byte, hexes, hex_of, kinds, kind_word, token_line, part_at, token_bytes, entry_line, entries_lines}
use Rattle.listed.proofs.Puts.{puts_append}

-- bytes in hex: none, or some
pub hex_none : (bs : List ℕ) → length bs ≡ 0 → hex_of bs ≡ word "-" ∷ []
unfolding hex_of
hex_none [] h = refl
hex_none (b ∷ bs) h = absurd (omega arith)

pub hex_some : (bs : List ℕ) → (length bs ≡ 0 → ⊥) → hex_of bs ≡ hexes bs
unfolding hex_of
hex_some [] h = absurd (h refl)
hex_some (b ∷ bs) h = refl

-- the bytes from an index on
pub hexes_here : (bs : List ℕ) (i : ℕ) → i < length bs → hexes (drop i bs) ≡ hex_byte (get_or bs i 0) ∷ hexes (drop (i + 1) bs)
unfolding hexes
hexes_here bs i h = rw (here bs i h)

pub hexes_past : (bs : List ℕ) (i : ℕ) → length bs ≤ i → hexes (drop i bs) ≡ []
unfolding hexes
hexes_past bs i h = rw (past bs i h)

-- a part: it is not there, or it is
module _ (bs : List ℕ) (at n : ℕ) where
  pub part_none : length bs < at + n → [] ≡ part_at bs at n
  unfolding part_at
  part_none h = rw (lt-leb (at + n) (length bs) h)

  pub part_some : at + n ≤ length bs → take n (drop at bs) ≡ part_at bs at n
  unfolding part_at
  part_some h = rw (le-leb (at + n) (length bs) h)

-- the bytes of a kind below the literals, above them, or among them
module _ (t ls : List ℕ) (k at n : ℕ) where
  pub bytes_below : k < 5 → token_bytes t ls k at n ≡ part_at t at n
  unfolding token_bytes
  bytes_below h = rw (lt-leb 5 k h)

  pub bytes_above : 5 ≤ k → 9 < k → token_bytes t ls k at n ≡ part_at t at n
  unfolding token_bytes
  bytes_above h g = rw (le-leb 5 k h, lt-leb k 9 g)

  pub bytes_packed : 5 ≤ k → k ≤ 9 → token_bytes t ls k at n ≡ part_at ls at n
  unfolding token_bytes
  bytes_packed h g = rw (le-leb 5 k h, le-leb k 9 g)

-- a number that is none of a kind
abbrev pub NoKind : ℕ → Type 0
NoKind k = ((((((((((Unit {0} × (k ≡ 1 → ⊥)) × (k ≡ 2 → ⊥)) × (k ≡ 3 → ⊥)) × (k ≡ 4 → ⊥)) × (k ≡ 5 → ⊥)) × (k ≡ 6 → ⊥)) × (k ≡ 7 → ⊥)) × (k ≡ 8 → ⊥)) × (k ≡ 9 → ⊥)) × (k ≡ 10 → ⊥)) × (k ≡ 11 → ⊥)

pub kind_none : (k : ℕ) → NoKind k → kind_word k ≡ word "-"
unfolding kinds kind_word
kind_none zero h = refl
kind_none (suc zero) h = absurd (h.0.0.0.0.0.0.0.0.0.0.1 refl)
kind_none (suc (suc zero)) h = absurd (h.0.0.0.0.0.0.0.0.0.1 refl)
kind_none (suc (suc (suc zero))) h = absurd (h.0.0.0.0.0.0.0.0.1 refl)
kind_none (suc (suc (suc (suc zero)))) h = absurd (h.0.0.0.0.0.0.0.1 refl)
kind_none (suc (suc (suc (suc (suc zero))))) h = absurd (h.0.0.0.0.0.0.1 refl)
kind_none (suc (suc (suc (suc (suc (suc zero)))))) h = absurd (h.0.0.0.0.0.1 refl)
kind_none (suc (suc (suc (suc (suc (suc (suc zero))))))) h = absurd (h.0.0.0.0.1 refl)
kind_none (suc (suc (suc (suc (suc (suc (suc (suc zero)))))))) h = absurd (h.0.0.0.1 refl)
kind_none (suc (suc (suc (suc (suc (suc (suc (suc (suc zero))))))))) h = absurd (h.0.0.1 refl)
kind_none (suc (suc (suc (suc (suc (suc (suc (suc (suc (suc zero)))))))))) h = absurd (h.0.1 refl)
kind_none (suc (suc (suc (suc (suc (suc (suc (suc (suc (suc (suc zero))))))))))) h = absurd (h.1 refl)
kind_none (suc (suc (suc (suc (suc (suc (suc (suc (suc (suc (suc (suc k)))))))))))) h = refl

-- a number of one digit, of two, and of three
module _ (n : ℕ) where
  pub number_one : n < 10 → (48 + n % 10) ∷ [] ≡ decimal n
  unfolding digit
  number_one h = let last : n % 10 ≡ n = omega arith in rw (decimal_one n h, last)

  pub number_two : 10 ≤ n → n < 100 → (48 + n / 10 % 10) ∷ (48 + n % 10) ∷ [] ≡ decimal n
  unfolding digit
  number_two g h = let tens : n / 10 % 10 ≡ n / 10 = omega arith in rw (decimal_more n g, decimal_one (n / 10) (omega arith), tens)

  pub number_three : 100 ≤ n → n < 1000 → (48 + n / 100) ∷ (48 + n / 10 % 10) ∷ (48 + n % 10) ∷ [] ≡ decimal n
  unfolding digit
  number_three g h =
      let hundreds : n / 10 / 10 ≡ n / 100 = omega arith in
      rw (decimal_more n (omega arith), decimal_more (n / 10) (omega arith), decimal_one (n / 10 / 10) (omega arith), hundreds)

-- the pieces of a line, one behind the other
pub line_put : (t : Writing) (p : Position) (k : ℕ) (bs : List ℕ) {u : Writing}
    → u ≡ put (puts (put (put (put (put t (debug_of p)) (word " ")) (kind_word k)) (word " ")) (hex_of bs)) (word "\n")
    → u ≡ puts t (token_line p k bs)
unfolding puts token_line
line_put t p k bs e = e ∙ sym (puts_append (put (put (put (put t (debug_of p)) (word " ")) (kind_word k)) (word " ")) (hex_of bs) (word "\n" ∷ []))

-- the entry whose numbers stand in front
module _ (t ls es : List ℕ) (x : Writing) {u : Writing} {l c : ℕ} {p : Position} {bs : List ℕ} where
  pub entry_put : l ≡ min (get_or es 1 0) 65535 → c ≡ min (get_or es 2 0) 65535 → p ≡ given l c
      → bs ≡ token_bytes t ls (get_or es 0 0) (get_or es 3 0) (get_or es 4 0)
      → u ≡ puts x (token_line p (get_or es 0 0) bs)
      → u ≡ puts x (entry_line t ls es)
  unfolding entry_line
  entry_put a b q r e = rw (← a, ← b, ← q, ← r) e

-- the rest of some numbers is all of it
pub take_rest : (l : List ℕ) (i : ℕ) → take (length l - i) (drop i l) ≡ drop i l
take_rest l i = rw (← length-drop i l) (take-length (drop i l))

-- so many entries less some: the next one and the rest, or none
module _ (t ls es : List ℕ) (k n : ℕ) where
  pub lines_here : n < k → entries_lines t ls (k - n) (drop (5 * n) es) ≡ entry_line t ls (drop (5 * n) es) ++ entries_lines t ls (k - (n + 1)) (drop (5 * (n + 1)) es)
  unfolding entries_lines
  lines_here h =
      let left : k - n ≡ suc (k - (n + 1)) = omega arith in
      let next : 5 * n + 5 ≡ 5 * (n + 1) = omega arith in
      rw (left, drop-drop 5 (5 * n) es, next)

  pub lines_past : k ≤ n → entries_lines t ls (k - n) (drop (5 * n) es) ≡ []
  unfolding entries_lines
  lines_past h = let none : k - n ≡ 0 = omega arith in rw none

  pub lines_next : (x : Writing) {u : Writing} → n < k → u ≡ puts x (entry_line t ls (drop (5 * n) es))
      → puts x (entries_lines t ls (k - n) (drop (5 * n) es)) ≡ puts u (entries_lines t ls (k - (n + 1)) (drop (5 * (n + 1)) es))
  lines_next x h e = rw (lines_here h, puts_append x (entry_line t ls (drop (5 * n) es)) (entries_lines t ls (k - (n + 1)) (drop (5 * (n + 1)) es)), ← e)
