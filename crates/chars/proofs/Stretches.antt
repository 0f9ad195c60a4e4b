-- Many turns of a scan at once: the one law of stretches, for any class and any rule. Assumes nothing.
use Rattle.utf8.specs.Looks.{char_found}
use Prim.Native.Nat.{ℕ, ◌+◌, ◌≤◌, ◌<◌}
use native.Mathlib.Omega.{arith}
use mathlib.Core.Bool.{Bool, true, false}
use mathlib.Core.List.{List, ◌∷◌}
use mathlib.Core.Path.{◌≡◌, refl, ap, ◌∙◌}
use lib.Dec.{eqb}
use lib.ListN.{length}
use borrow.Author.Tests.{ne_eqb}
use Rattle.basis.specs.Pick.{either}
use Rattle.basis.proofs.Cases.{not_both}
use Rattle.utf8.specs.Table.{ch, chars_at, look_at}
use Rattle.utf8.proofs.Laws.{at_width}
use Rattle.chars.specs.Scan.{go, Rule, run_at}
use Rattle.chars.specs.Stretch.{StretchOf, none, more, among, Low, High, Other}
use Rattle.chars.proofs.Scans.{move_on, one_on}

-- ---- how far a stretch goes
module _ {t : List ℕ} {of : ℕ → Type 0} {a : ℕ} where
  pub stretch_low : {k b : ℕ} → StretchOf t of a k b → a + k ≤ b
  stretch_low none = omega arith
  stretch_low (more {k} {b} {c} {w} p e y) = omega (arith, stretch_low p, at_width t b e)

  pub stretch_high : {k b : ℕ} → StretchOf t of a k b → a ≤ length t → b ≤ length t
  stretch_high none h = h
  stretch_high (more {k} {b} {c} {w} p e y) h = (at_width t b e).1

  -- no character, and one more, however they are counted
  pub no_more : {k : ℕ} → k ≡ 0 → StretchOf t of a k a
  no_more q = rw q none

  pub one_more : {k j b c w : ℕ} → StretchOf t of a k b → look_at t b ≡ char_found c w → of c → j ≡ k + 1 → StretchOf t of a j (b + w)
  one_more p e y q = rw q (more p e y)

  -- a stretch and then one of another class, whose characters are all of this one
  pub then_more : {on : ℕ → Type 0} → ((c : ℕ) → on c → of c) → {k b j i e : ℕ} → StretchOf t of a k b → StretchOf t on b j e → i ≡ k + j → StretchOf t of a i e
  then_more f {k} {b} {j} {i} p none q = let z : i ≡ k = omega arith in rw z p
  then_more f {k} {b} {j} {i} p (more s e y) q = one_more (then_more f p s refl) e (f _ y) (omega arith)

  -- of one character at least
  pub stretch_within : {k b : ℕ} → StretchOf t of a k b → a < b → b ≤ length t
  stretch_within none h = absurd (omega arith)
  stretch_within (more {k} {b} {c} {w} p e y) h = (at_width t b e).1

-- ---- the law. `state k` is where a scan stands behind k characters of the stretch, and `view b` is what is asked, at an offset, of what is left to scan: where each turn leaves the answer as it is, all do
module _ {S N R A : Type 0} (rule : Rule S N R) (t : List ℕ) (state : ℕ → S) (view : ℕ → R → A) where
  -- one character makes no difference
  abbrev pub Plain : ℕ → ℕ → ℕ → Type 0
  Plain k b w = view b (run_at rule t b (state k)) ≡ view (b + w) (run_at rule t (b + w) (state (k + 1)))

  -- so it is where its turn takes it alone, and what the turn yields is of no account
  pub plain_turn : {k b c w : ℕ} {n : N} → look_at t b ≡ char_found c w → rule.turn b (ch c w ∷ chars_at t (b + w)) (state k) ≡ go n 0 (state (k + 1))
      → ((r : R) → view b (rule.note n r) ≡ view (b + w) r) → Plain k b w
  plain_turn {k} {b} {c} {w} e q v = ap (view b) (move_on rule t b (state k) (one_on rule t b (state k) e q)) ∙ v (run_at rule t (b + w) (state (k + 1)))

  module _ (of : ℕ → Type 0) (a end : ℕ) (plain : (k b c w : ℕ) → a ≤ b → b + w ≤ end → look_at t b ≡ char_found c w → of c → Plain k b w) where
    pub stretched : {k b : ℕ} → StretchOf t of a k b → b ≤ end → view a (run_at rule t a (state 0)) ≡ view b (run_at rule t b (state k))
    stretched none h = refl
    stretched (more {k} {b} {c} {w} p e y) h = stretched p (omega arith) ∙ plain k b c w (omega (arith, stretch_low p)) h e y

-- ---- a character that is none of five
neither : (x y : Bool) → either x y ≡ false → (x ≡ false) × (y ≡ false)
neither true y h = not_both refl h
neither false y h = (refl, h)

pub is_other : (a b d e f c : ℕ) → Other a b d e f c → (eqb c a ≡ false) × (eqb c b ≡ false) × (eqb c d ≡ false) × (eqb c e ≡ false) × (eqb c f ≡ false)
unfolding among
is_other a b d e f c h =
    let x = neither (eqb c a) _ h in
    let y = neither (eqb c b) _ x.1 in
    let z = neither (eqb c d) _ y.1 in
    let u = neither (eqb c e) (eqb c f) z.1 in
    (x.0, y.0, z.0, u.0, u.1)

-- a longer character is none of five that are ASCII
pub high_other : (a b d e f c : ℕ) → Low a b d e f → High c → Other a b d e f c
unfolding among
high_other a b d e f c l h =
    rw (
      ne_eqb c a (λ q. omega arith),
      ne_eqb c b (λ q. omega arith),
      ne_eqb c d (λ q. omega arith),
      ne_eqb c e (λ q. omega arith),
      ne_eqb c f (λ q. omega arith),
    )
