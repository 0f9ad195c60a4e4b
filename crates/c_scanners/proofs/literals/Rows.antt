-- A literal's scan answered by its row, for each way out of a C name: the memory lent for the row is too short, or is not. Assumes nothing.
use Prim.Native.Nat.{ℕ, ◌≤◌, ◌<◌}
use mathlib.Core.List.{List}
use mathlib.Core.Path.{◌≡◌, refl, ap, ◌∙◌}
use lib.ListN.{length, get_or}
use Rattle.literal.specs.Cut.{wrote}
use Rattle.literal.specs.Told.{refusal_number}
use Rattle.literal.specs.Trace.{Trace}
use Rattle.literal.specs.Scans.{Scanned}
use Rattle.numbers.specs.Answer.{answered}
use Rattle.numbers.proofs.Answers as row
use Rattle.c_answer.specs.Short.{short_row_number}
use Rattle.c_answer.proofs.Short.{short_told, long_told}
use Rattle.c_scanners.specs.LiteralRow.{literal_row, ScanLeaves}

module _ (s : Scanned) (answer : List ℕ) where
  -- eleven numbers
  long : length (literal_row s) ≡ 11
  unfolding literal_row
  long = refl

  module _ (h : length answer < 88) where
    short_leaves : answer ≡ answered (literal_row s) answer
    short_leaves = row.short_leaves 11 (literal_row s) answer long h

    pub too_short : {e e' : Scanned} → e' ≡ e → {r : ℕ} → r ≡ short_row_number (refusal_number e') → (t : Trace) (out : List ℕ) → ScanLeaves s e t out answer r out answer
    too_short {e} q z t out =
        record {
          number = z ∙ ap (λ (x : Scanned). short_row_number (refusal_number x)) q ∙ short_told 11 (literal_row s) answer long (refusal_number e) h;
          body = row.short_beside 11 (literal_row s) answer long h out (wrote s t out);
          row = short_leaves;
        }

  module _ (h : 88 ≤ length answer) where
    pub in_full : (e : Scanned) (t : Trace) {s' : Scanned} {out out' answer' : List ℕ} {r : ℕ}
        → s' ≡ s
        → out' ≡ wrote s' t out
        → r ≡ get_or (literal_row s') 0 0
        → answer' ≡ answered (literal_row s') answer
        → ScanLeaves s e t out answer r out' answer'
    in_full e t {out = out} k w f g =
        record {
          number = rw k at f ∙ long_told 11 (literal_row s) answer long (refusal_number e) h;
          body = rw k at w ∙ row.long_beside 11 (literal_row s) answer long h out (wrote s t out);
          row = rw k at g;
        }
