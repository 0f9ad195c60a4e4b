-- The character whose width was told, if it fits; at the end of the text every one does.
use Rattle.std.specs.Prelude.{None}
use Prim.Native.Nat.{ℕ, ◌+◌, ◌-◌, ◌≤◌, ◌<◌}
use native.Mathlib.Omega.{arith}
use mathlib.Core.List.{List, ◌∷◌}
use mathlib.Core.Path.{◌≡◌, refl, ap, ◌∙◌}
use lib.ListN.{length, drop, get_or}
use Rattle.utf8.specs.Table.{look, look_at}
use Rattle.utf8.specs.Widths.{width_of}
use Rattle.utf8.proofs.Laws.{at_width}
use Rattle.utf8.proofs.Widths.{wide_char, wide_none, at_high}
use Rattle.chars.specs.Stretch.{NextChar, High}
use Rattle.chars.proofs.passing.width.Goals as goal

module _ (t : List ℕ) (at x stop : ℕ) (h : at < length t) (q : x ≡ get_or t at 0) (g : 0x80 ≤ x) (l : at ≤ stop) where
  next : {w : ℕ} → w ≡ width_of (look (x ∷ drop (at + 1) t)) → w ≤ stop - at → (w ≡ 0 → ⊥) → NextChar t High at stop w
  next e r n =
      let k = wide_char t at h (e ∙ ap (λ (b : ℕ). width_of (look (b ∷ drop (at + 1) t))) q) n in
      record { code = k.0; found = k.1; fits = omega arith; is = at_high t at (omega arith) k.1 }

  -- none is there, if the stop is the end of the text
  none_here : {w : ℕ} → w ≡ width_of (look (x ∷ drop (at + 1) t)) → w ≡ 0 → look_at t at ≡ None
  none_here e z = wide_none t at h (e ∙ ap (λ (b : ℕ). width_of (look (b ∷ drop (at + 1) t))) q) z

  no_room : {w : ℕ} → w ≡ width_of (look (x ∷ drop (at + 1) t)) → stop - at < w → stop ≡ length t → look_at t at ≡ None
  no_room {w} e r s =
      let k = wide_char t at h (e ∙ ap (λ (b : ℕ). width_of (look (b ∷ drop (at + 1) t))) q) (λ z. omega (arith, r, z)) in
      absurd (omega (arith, at_width t at k.1, r, s))

pub returns-then-w-stop : goal.returns-then-w-stop
returns-then-w-stop c =
    let pre = c.requires in
    record {
      next_char = λ n. next _ _ _ _ pre.0 pre.1 pre.2 pre.3 c.width-w.ensures c.if-w-stop.true n;
      at_value = λ z s. none_here _ _ _ _ pre.0 pre.1 pre.2 pre.3 c.width-w.ensures z;
    }

pub returns-else-w-stop : goal.returns-else-w-stop
returns-else-w-stop c =
    let pre = c.requires in
    record {
      next_char = λ n. absurd (n refl);
      at_value = λ z s. no_room _ _ _ _ pre.0 pre.1 pre.2 pre.3 c.width-w.ensures c.if-w-stop.false s;
    }
