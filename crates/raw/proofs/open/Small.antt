-- What the opening of a raw literal leads to is small where its start is. Assumes nothing.
use Rattle.std.specs.Prelude.{Err, Ok}
use Prim.Native.Nat.{ℕ}
use native.Mathlib.Omega.{arith}
use mathlib.Core.List.{List}
use lib.Dec.{eqb}
use lib.ListN.{length}
use Rattle.basis.proofs.Cases.{pick_cases}
use Rattle.position.proofs.Small.{Small, advanced_small}
use Rattle.utf8.proofs.Laws.{at_width}
use Rattle.lex_error.specs.declared.LexError.TheVariants.{UnterminatedString}
use Rattle.fault.proofs.Small.{Tells, fault_tells}
use Rattle.chars.specs.Scan.{Turn}
use Rattle.chars.specs.declared.cursor.Cursor.{Cursor}
use Rattle.chars.proofs.Keeps.{Kept, scan_keeps}
use Rattle.classes.specs.Marks.{quote, hash}
use Rattle.raw.specs.Opening.{Counted, counted, cut_off, opening_turn, opening_rule, opened_of}
use Rattle.raw.specs.Answer.{Opened}

abbrev pub OpenedSmall : List ℕ → Opened → Type 0
OpenedSmall t (Ok (k, from)) = Small from.place
OpenedSmall t (Err f) = Tells (length t) f.fault

pub opened_small : (t : List ℕ) (start : Cursor) (k : ℕ) → Small start.place → OpenedSmall t (opened_of t start k)
unfolding opened_of opening_turn cut_off
opened_small t start k h =
    pick_cases (OpenedSmall t) (eqb k 0) _ _
    (λ y. scan_keeps (opening_rule start.place) t P (OpenedSmall t)
    (λ at s i. fault_tells (length t) UnterminatedString h)
    (λ at c w s e i.
    let wide = at_width t at e in
    pick_cases Turned (eqb c quote) _ _ (λ y. advanced_small i)
    (λ n. pick_cases Turned (eqb c hash) _ _ (λ y. advanced_small i) (λ m. record { number = omega arith; place = h; at = omega (arith, wide); len = omega (arith, wide) })))
    (λ n r i. i) start.at (counted 1 start.place) h)
    (λ n. h)
  where
    P : Counted → Type 0
    P s = Small s.place

    Turned : Turn Counted (Unit {0}) Opened → Type 0
    Turned = Kept (opening_rule start.place) t P (OpenedSmall t)
