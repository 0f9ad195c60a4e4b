-- What the reading of a raw literal tells is small where its start is. Assumes nothing.
use Rattle.std.specs.Prelude.{Err, Ok}
use Prim.Native.Nat.{ℕ}
use mathlib.Core.List.{List}
use lib.Dec.{eqb, ltb}
use lib.ListN.{length}
use Rattle.basis.specs.Pick.{both}
use Rattle.basis.proofs.Cases.{pick_cases}
use Rattle.position.specs.declared.Position.{Position}
use Rattle.position.specs.Place.{none}
use Rattle.position.proofs.Small.{Small, advanced_small, lined_small}
use Rattle.chars.specs.Scan.{Turn}
use Rattle.chars.specs.declared.cursor.Cursor.{Cursor}
use Rattle.chars.proofs.Keeps.{Kept, scan_keeps}
use Rattle.literal.specs.Trace.{Trace, Yield}
use Rattle.literal.proofs.Small.{Traced, yields_traced}
use Rattle.classes.specs.Marks.{quote, hash, lf}
use Rattle.raw.specs.Opening.{opened_of}
use Rattle.raw.specs.Answer.{Opened}
use Rattle.raw.proofs.open.Small.{OpenedSmall, opened_small}
use Rattle.raw.specs.Raw.{BodyState, body_state, placed, at_end, body_turn, body_rule, body_of, behind_opening, read_of, Newlines, starts_line}

module _ (mode : Newlines) (t : List ℕ) (start : Position) (k : ℕ) where
  abbrev Turned : Turn BodyState (List Yield) Trace → Type 0
  Turned = Kept (body_rule mode start k) t (λ s. Small s.place) (Traced (length t))

  placed_small : (held c : ℕ) (p : Position) → Small p → Small (placed mode held c p)
  unfolding placed
  placed_small held c p h = pick_cases Small (both (eqb c lf) (starts_line mode held)) _ _ (λ y. lined_small h) (λ n. h)

  body_traced : (from : Cursor) → Small from.place → Traced (length t) (body_of mode t start k from)
  unfolding body_of body_turn at_end
  body_traced from h =
      scan_keeps (body_rule mode start k) t (λ s. Small s.place) (Traced (length t)) (λ at s i. i)
      (λ at c w s e i.
      pick_cases Turned (eqb c quote) _ _ (λ y. advanced_small i)
      (λ n. pick_cases Turned (both (ltb 0 s.held) (eqb c hash)) _ _
      (λ y. pick_cases Turned (eqb s.held k) _ _ (λ z. advanced_small i) (λ z. advanced_small i))
      (λ m. placed_small s.held c _ (advanced_small i))))
      (λ ys r i. yields_traced (length t) ys r i) from.at (body_state 0 from.place none) h

pub read_traced : (mode : Newlines) (t : List ℕ) (start : Cursor) (k : ℕ) → Small start.place → Traced (length t) (read_of mode t start k)
unfolding read_of
read_traced mode t start k h = by (opened_of t start k) (opened_small t start k h)
  where
    by : (x : Opened) → OpenedSmall t x → Traced (length t) (behind_opening mode t start.place x)
    by (Ok (n, from)) i = body_traced mode t start.place n from i
    by (Err f) i = i
