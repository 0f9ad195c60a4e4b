-- A word ends further on, within the text. Assumes nothing.
use Rattle.std.specs.Prelude.{Err, None, Ok, Some}
use Prim.Native.Nat.{ℕ, ◌+◌, ◌≤◌, ◌<◌}
use native.Mathlib.Omega.{arith}
use mathlib.Core.List.{List}
use mathlib.Core.Path.{◌≡◌, refl}
use lib.ListN.{length}
use Rattle.utf8.specs.Table.{look_at}
use Rattle.utf8.specs.Looks.{Look}
use Rattle.utf8.proofs.Laws.{at_width}
use Rattle.chars.specs.Cursors.{cursor}
use Rattle.chars.specs.declared.cursor.Cursor.{Cursor}
use Rattle.fault.specs.Faults.{Own}
use Rattle.chars.specs.declared.stretch.Stretch.TheVariants as Stretch
use Rattle.chars.proofs.stretch.Ends.{end_reached}
use Rattle.identifier.specs.Identifiers.{identified_as, spanned, identified_from, identify_of}
use Rattle.identifier.specs.Answer.{Class, Identified}

module _ (t book : List ℕ) (s : Cursor) where
  abbrev pub Ahead : Identified → Type 0
  Ahead (Ok w) = (s.at < w.cursor.at) × (w.cursor.at ≤ length t)
  Ahead (Err (f, e)) = Own f

  answered_ahead : (e : Cursor) → (s.at < e.at) × (e.at ≤ length t) → (x : Class) → Ahead (identified_as s e x)
  unfolding identified_as
  answered_ahead e h (Some (k, w)) = h
  answered_ahead e h None = (λ q. omega arith, λ q. omega arith, λ q. omega arith)

  begun_ahead : (x : Look) → look_at t s.at ≡ x → Ahead (identified_from t book s x)
  unfolding identified_from spanned
  begun_ahead (Some (c, w)) e =
      let h = at_width t s.at e in
      let r = end_reached Stretch.Word t (cursor (s.at + w) s.place) in
      answered_ahead _ (omega (arith, h, r.0), r.1 h.1) _
  begun_ahead None e = (λ q. omega arith, λ q. omega arith, λ q. omega arith)

  pub identified_ahead : Ahead (identify_of t book s)
  unfolding identify_of
  identified_ahead = begun_ahead (look_at t s.at) refl
