-- What the reading of a string literal tells is small where its start is. Assumes nothing.
use Rattle.std.specs.declared.ops.ControlFlow.TheVariants.{Break, Continue}
use Rattle.std.specs.Prelude.{Err, Ok}
use Prim.Native.Nat.{ℕ}
use mathlib.Core.Bool.{Bool}
use mathlib.Core.List.{List}
use lib.ListN.{length}
use Rattle.position.specs.declared.Position.{Position}
use Rattle.position.proofs.Small.{Small}
use Rattle.chars.specs.Scan.{Turn}
use Rattle.chars.specs.declared.cursor.Cursor.{Cursor}
use Rattle.chars.proofs.Keeps.{Kept, scan_keeps}
use Rattle.chars.proofs.Small.{In}
use Rattle.literal.specs.Trace.{Trace, Yield}
use Rattle.literal.proofs.Small.{Traced, yields_traced}
use Rattle.string_turn.specs.Take.{input_end, take_of}
use Rattle.string_turn.specs.declared.take.Scanning.{Scanning}
use Rattle.string_turn.specs.Answer.{Last}
use Rattle.string_turn.specs.Answer.{Got}
use Rattle.string_turn.proofs.take.Small.{LastSmall, GotSmall, end_small, take_small}
use Rattle.string_turn.specs.Act.{act_of}
use Rattle.string_turn.specs.Answer.{Acted}
use Rattle.string_turn.proofs.act.Small.{StateSmall, StepSmall, act_small}
use Rattle.string.specs.Ends.{last_of}
use Rattle.string.specs.Reading.{on_got, on_acted, string_turn, string_rule, string_begun, string_reading}

module _ (t : List ℕ) where
  -- by what taking a character, or acting on it, led to
  got_cases : {A : Type 0} (P : A → Type 0) (x : Got) (f : ℕ → Cursor → A) (g : Last → A) → GotSmall t x
      → ((c : ℕ) (here : Cursor) → In t here → P (f c here)) → ((last : Last) → LastSmall t last → P (g last)) → P (on_got x f g)
  got_cases P (Continue (c, here)) f g k y z = y c here k
  got_cases P (Break last) f g k y z = z last k

  step_cases : {A : Type 0} (P : A → Type 0) (x : Acted) (f : ℕ → ℕ → Scanning → A) (g : Last → A) → StepSmall t x
      → ((c at : ℕ) (s : Scanning) → StateSmall t s → P (f c at s)) → ((last : Last) → LastSmall t last → P (g last)) → P (on_acted x f g)
  step_cases P (Continue (c, at, s)) f g k y z = y c at s k
  step_cases P (Break last) f g k y z = z last k

  last_traced : (start : Position) (last : Last) → LastSmall t last → Traced (length t) (last_of start last)
  unfolding last_of
  last_traced start (Ok e) k = k
  last_traced start (Err f) k = k

pub reading_traced : (white : ℕ → Bool) (t : List ℕ) (q : ℕ) (from : Cursor) → Small from.place → Traced (length t) (string_reading white t q from)
unfolding string_reading string_begun string_rule string_turn
reading_traced white t q from h =
    scan_keeps (string_rule white t q from.place) t (StateSmall t) (Traced (length t))
    (λ at s k. last_traced t from.place (input_end q from.place at s) (end_small t q from.place at s h k.0))
    (λ at c w s e k.
    got_cases t Turned (take_of t q from.place at s) _ _ (take_small t q from.place at s h k.0)
    (λ d here i. step_cases t Turned (act_of white t q from.place d here s) _ _ (act_small t white q from.place d here s h i k) (λ x next r j. j) (λ last j. last_traced t from.place last j))
    (λ last j. last_traced t from.place last j))
    (λ ys r k. yields_traced (length t) ys r k) from.at (string_begun from.place) (h, tt)
  where
    Turned : Turn Scanning (List Yield) Trace → Type 0
    Turned = Kept (string_rule white t q from.place) t (StateSmall t) (Traced (length t))
