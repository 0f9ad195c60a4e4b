-- What the scan of an identifier tells is small where its start is. Assumes nothing.
use Rattle.std.specs.Prelude.{Err, None, Ok, Some}
use Prim.Native.Nat.{ℕ, ◌+◌, ◌≤◌}
use native.Mathlib.Omega.{arith}
use mathlib.Core.List.{List}
use mathlib.Core.Path.{◌≡◌, refl}
use lib.ListN.{length}
use Rattle.position.proofs.Small.{Small}
use Rattle.utf8.specs.Table.{look_at}
use Rattle.utf8.specs.Looks.{Look}
use Rattle.utf8.proofs.Laws.{at_width}
use Rattle.chars.specs.Cursors.{cursor}
use Rattle.chars.specs.declared.cursor.Cursor.{Cursor}
use Rattle.fault.proofs.Small.{Tells, fault_tells}
use Rattle.chars.specs.Ends.{stretch_end}
use Rattle.chars.specs.declared.stretch.Stretch.TheVariants as Stretch
use Rattle.chars.proofs.stretch.Ends.{end_reached}
use Rattle.chars.proofs.stretch.Small.{end_small}
use Rattle.identifier.specs.Identifiers.{identified_as, spanned, identified_from, identify_of}
use Rattle.identifier.specs.Answer.{Class, Identified}

module _ (t book : List ℕ) (s : Cursor) (h : Small s.place) where
  abbrev pub IdentifiedSmall : Identified → Type 0
  IdentifiedSmall (Ok w) = Small w.cursor.place
  IdentifiedSmall (Err (f, e)) = Tells (length t) f

  answered_small : (e : Cursor) → Small e.place → s.at ≤ e.at → e.at ≤ length t → (x : Class) → IdentifiedSmall (identified_as s e x)
  unfolding identified_as
  answered_small e k l m (Some (n, w)) = k
  answered_small e k l m None = record { number = omega arith; place = h; at = omega arith; len = omega arith }

  begun_small : (x : Look) → look_at t s.at ≡ x → IdentifiedSmall (identified_from t book s x)
  unfolding identified_from spanned
  begun_small (Some (c, w)) e =
      let wide = at_width t s.at e in
      let from = cursor (s.at + w) s.place in
      let r = end_reached Stretch.Word t from in
      answered_small (stretch_end Stretch.Word t from) (end_small Stretch.Word t from h) (omega (arith, r.0)) (r.1 wide.1) _
  begun_small None e = fault_tells (length t) _ h

  pub identified_small : IdentifiedSmall (identify_of t book s)
  unfolding identify_of
  identified_small = begun_small (look_at t s.at) refl
