-- What stands next, as a look says it and as a rule asks it. Assumes nothing.
use Rattle.utf8.specs.Looks.{char_found}
use Rattle.std.specs.Prelude.{None}
use Prim.Native.Nat.{ℕ}
use mathlib.Core.Bool.{true, false}
use mathlib.Core.List.{List}
use mathlib.Core.Path.{◌≡◌}
use borrow.Author.Tests.{eq-eqb, ne_eqb}
use Rattle.utf8.specs.Table.{chars_at, look_at}
use Rattle.utf8.proofs.Laws.{chars_char, chars_end}
use Rattle.chars.specs.Scan.{follows}

module _ (t : List ℕ) (at c : ℕ) where
  pub followed : {d w : ℕ} → look_at t at ≡ char_found d w → d ≡ c → follows c (chars_at t at) ≡ true
  followed {d} e q = rw (chars_char t at e) (eq-eqb d c q)

  pub other_follows : {d w : ℕ} → look_at t at ≡ char_found d w → (d ≡ c → ⊥) → follows c (chars_at t at) ≡ false
  other_follows {d} e q = rw (chars_char t at e) (ne_eqb d c q)

  pub nothing_follows : look_at t at ≡ None → follows c (chars_at t at) ≡ false
  nothing_follows e = rw (chars_end t at e)
