-- Offsets that a scan gets to, character by character, and what the driver is to be told of them. Assumes nothing.
use Rattle.utf8.specs.Looks.{char_found}
use Prim.Native.Nat.{ℕ, suc, ◌+◌, ◌≤◌, ◌<◌}
use native.Mathlib.Omega.{arith}
use native.Mathlib.Nat.{add-zero, zero-add, suc-add, add_assoc}
use mathlib.Core.List.{List}
use mathlib.Core.Path.{◌≡◌, sym, ap}
use lib.ListN.{length}
use Rattle.position.specs.declared.Position.{Position}
use Rattle.utf8.specs.Table.{chars_at, look_at}
use Rattle.utf8.proofs.Laws.{chars_char, at_width}
use Rattle.chars.specs.Scan.{widths}
use Rattle.chars.specs.declared.cursor.Cursor.{Cursor}
use Rattle.chars.proofs.Scans.{widths_char}
use Rattle.chars.proofs.Cursors.{Took}

-- from one offset to another by whole characters, none at least
pub data Reached (t : List ℕ) : ℕ → ℕ → Type 0 where
  there : {a : ℕ} → Reached t a a
  past : {a c w b : ℕ} → look_at t a ≡ char_found c w → Reached t (a + w) b → Reached t a b

-- the same, by one character at least
pub data Further (t : List ℕ) : ℕ → ℕ → Type 0 where
  behind : {a c w b : ℕ} → look_at t a ≡ char_found c w → Reached t (a + w) b → Further t a b

module _ {t : List ℕ} where
  pub and_on : {a b d : ℕ} → Reached t a b → Reached t b d → Reached t a d
  and_on there q = q
  and_on (past e p) q = past e (and_on p q)

  pub further_on : {a b d : ℕ} → Further t a b → Reached t b d → Further t a d
  further_on (behind e p) q = behind e (and_on p q)

  pub took_reached : {a c : ℕ} {p : Position} {next : Cursor} → Took t a p c next → Reached t a next.at
  took_reached q = rw q.stands (past q.found there)

  pub took_further : {a c : ℕ} {p : Position} {next : Cursor} → Took t a p c next → Further t a next.at
  took_further q = rw q.stands (behind q.found there)

  -- bounds
  pub reached_low : {a b : ℕ} → Reached t a b → a ≤ b
  reached_low there = omega arith
  reached_low (past e p) = omega (arith, reached_low p)

  pub reached_high : {a b : ℕ} → Reached t a b → a ≤ length t → b ≤ length t
  reached_high there h = h
  reached_high (past {a} {c} {w} e p) h = reached_high p (at_width t a e).1

  pub further_low : {a b : ℕ} → Further t a b → a < b
  further_low (behind {a} {c} {w} e p) = omega (arith, at_width t a e, reached_low p)

  pub further_high : {a b : ℕ} → Further t a b → b ≤ length t
  further_high (behind {a} {c} {w} e p) = reached_high p (at_width t a e).1

-- how many characters that is: as many as are fewer left
pub record Counted (t : List ℕ) (a b : ℕ) : Type 0 where
  pub count : ℕ
  pub bytes : b ≡ a + widths count (chars_at t a)
  pub fewer : length (chars_at t a) ≡ count + length (chars_at t b)

pub counted : {t : List ℕ} {a b : ℕ} → Reached t a b → Counted t a b
unfolding widths
counted {t} {a} there = record { count = 0; bytes = sym (add-zero a); fewer = sym (zero-add (length (chars_at t a))) }
counted {t} (past {a} {c} {w} {b} e p) =
    let q : Counted t (a + w) b = counted p in
    record {
      count = suc q.count;
      bytes = rw (widths_char t a q.count e, ← add_assoc a w (widths q.count (chars_at t (a + w)))) q.bytes;
      fewer = rw (chars_char t a e, suc-add) (ap suc q.fewer);
    }
