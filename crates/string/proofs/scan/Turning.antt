-- A turn under a limit, for each way through the code. Assumes nothing.
use Rattle.std.specs.declared.ops.ControlFlow.TheVariants.{Break, Continue}
use Rattle.std.specs.Prelude.{Err, Ok}
use Prim.Native.Nat.{ℕ}
use mathlib.Core.Bool.{Bool, true, false}
use mathlib.Core.List.{List}
use mathlib.Core.Path.{◌≡◌, refl, sym, ap, ◌∙◌}
use Rattle.position.specs.declared.Position.{Position}
use Rattle.white.specs.White.{is_white}
use Rattle.chars.specs.declared.cursor.Cursor.{Cursor}
use Rattle.literal.specs.Trace.{bytes, passes}
use Rattle.literal.specs.Cut.{cut}
use Rattle.literal.specs.declared.End.{End}
use Rattle.literal.specs.declared.Refusal.{Refusal}
use Rattle.literal.specs.Scans.{Scanned, accepted_as}
use Rattle.literal.proofs.Turns.{cut_ends, cut_fails, cut_long, cut_on}
use Rattle.literal.specs.Answers.{once, too_long}
use Rattle.string_turn.specs.Take.{take_of}
use Rattle.string_turn.specs.Act.{act_of}
use Rattle.string_turn.specs.declared.take.Scanning.{Scanning}
use Rattle.string_turn.specs.Answer.{Last, got_char, goes_with}
use Rattle.string_turn.specs.Answer.{Got}
use Rattle.string_turn.specs.Answer.{Acted}
use Rattle.string.specs.Ends.{last_of}
use Rattle.string.specs.Limited.{LimitAnswers, GoesOn}
use Rattle.string.specs.Reading.{rest}
use Rattle.string.proofs.Readings.{over_at_once, over_then, goes_on, goes_low, goes_high}

-- how a scan is over
module _ (start : Position) (limit n : ℕ) {last : Last} where
  module _ {e : End} (g : last ≡ Ok e) {b : Bool} (o : b ≡ passes limit n) where
    pub over_limit : b ≡ true → {r : Scanned} → r ≡ Err (too_long start e.cursor e.on_record) → LimitAnswers limit n (last_of start last) r
    unfolding last_of
    over_limit y k = record { is = λ full room. rw (g, k) (cut_long full limit room n _ _ (sym o ∙ y)) }

    pub accepted : b ≡ false → LimitAnswers limit n (last_of start last) (accepted_as e n)
    unfolding last_of
    accepted y = record { is = λ full room. rw g (cut_on full limit room n _ _ (sym o ∙ y) ∙ cut_ends full limit room n e) }

  pub refuses : {f : Refusal} → last ≡ Err f → LimitAnswers limit n (last_of start last) (Err f)
  unfolding last_of
  refuses {f} g = record { is = λ full room. rw g (cut_fails full limit room n f) }

-- a turn
module _ (t : List ℕ) (q : ℕ) (start : Position) (limit n at : ℕ) (s : Scanning) {x : Got} (g : x ≡ take_of t q start at s) where
  pub turn_over : {last : Last} → x ≡ Break last → {r : Scanned} → LimitAnswers limit n (last_of start last) r → LimitAnswers limit n (rest t q start at s) r
  turn_over k a = record { is = λ full room. rw (over_at_once is_white t q start at s (sym g ∙ k)) (a.is full room) }

  module _ {c : ℕ} {here : Cursor} (k : x ≡ got_char c here) where
    module _ {b : Bool} (o : b ≡ passes limit n) where
      pub turn_long : b ≡ true → {r : Scanned} → r ≡ Err (too_long start here (once q)) → LimitAnswers limit n (rest t q start at s) r
      turn_long y {r} e = record { is = λ full room. by full room (act_of is_white t q start c here s) refl }
        where
          by : (full : Refusal) (room : ℕ) (a : Acted) → act_of is_white t q start c here s ≡ a → cut full limit room n (rest t q start at s) ≡ r
          by full room (Break last) z = rw (over_then is_white t q start at s (sym g ∙ k) z, e) (cut_long full limit room n _ _ (sym o ∙ y))
          by full room (Continue (d, next, s')) z = rw (goes_on is_white t q start at s (sym g ∙ k) z, e) (cut_long full limit room n _ _ (sym o ∙ y))

      module _ (y : b ≡ false) {a : Acted} (f : a ≡ act_of is_white t q start c here s) where
        pub turn_stops : {last : Last} → a ≡ Break last → {r : Scanned} → LimitAnswers limit n (last_of start last) r → LimitAnswers limit n (rest t q start at s) r
        turn_stops z w =
            record {
              is = λ full room. rw (over_then is_white t q start at s (sym g ∙ k) (sym f ∙ z)) (cut_on full limit room n _ _ (sym o ∙ y) ∙ w.is full room);
            }

        pub turn_on : {d next : ℕ} {r : Scanning} → a ≡ goes_with d next r → GoesOn limit n t q start at s d next r
        unfolding bytes
        turn_on z =
            let e = goes_on is_white t q start at s (sym g ∙ k) (sym f ∙ z) in
            record {
              is = λ full room h. ap (cut full limit room n) e ∙ cut_on full limit room n _ _ (sym o ∙ y);
              body = ap bytes e;
              low = goes_low is_white t q start at s (sym g ∙ k) (sym f ∙ z);
              high = goes_high is_white t q start at s (sym g ∙ k) (sym f ∙ z);
            }
