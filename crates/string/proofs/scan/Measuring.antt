-- The measuring loop: what is left to read, with the bytes so far, is answered as the whole. Assumes nothing.
use Rattle.std.specs.declared.ops.ControlFlow.TheVariants.{Break}
use Rattle.std.specs.Prelude.{Err}
use Prim.Native.Nat.{ℕ, ◌+◌, ◌-◌, ◌≤◌, ◌<◌}
use native.Mathlib.Omega.{arith}
use mathlib.Core.List.{List}
use mathlib.Core.Path.{◌≡◌, sym, ◌∙◌}
use lib.ListN.{length}
use Rattle.utf8.specs.Encode.{encoded}
use Rattle.white.specs.White.{is_white}
use Rattle.chars.specs.declared.cursor.Cursor.{Cursor}
use Rattle.literal.specs.Cut.{cut}
use Rattle.literal.specs.Scans.{Scanned}
use Rattle.literal.proofs.Turns.{cut_full, cut_adds}
use Rattle.literal.specs.Answers.{full}
use Rattle.string_turn.specs.declared.take.Scanning.{Scanning}
use Rattle.string.specs.Reading.{string_begun, string_reading}
use Rattle.string.specs.Limited.{LimitAnswers, GoesOn, Tells}
use Rattle.string.specs.Standing.{Measured}
use Rattle.string.specs.Reading.{rest}
use Rattle.string.specs.Answer.{LimitedTurn, turned_to}

module _ (t : List ℕ) (from : Cursor) (q limit room : ℕ) where
  pub measured_start : {s : Scanning} → s ≡ string_begun from.place → Measured t from q limit room from.at s 0
  unfolding string_reading
  measured_start e = record { within = omega arith; is = rw e }

  module _ {at : ℕ} {s : Scanning} {n : ℕ} (i : Measured t from q limit room at s n) {x : LimitedTurn} (g : Tells limit n t q from.place at s x) where
    pub measured_over : {a : Scanned} → x ≡ Break a → a ≡ cut (full from) limit room 0 (string_reading is_white t q from)
    measured_over {a} e =
        let h : LimitAnswers limit n (rest t q from.place at s) a = rw e at g in
        sym (i.is ∙ h.is (full from) room)

    module _ {d next : ℕ} {r : Scanning} (e : x ≡ turned_to d next r) where
      went : GoesOn limit n t q from.place at s d next r
      went = rw e at g

      pub measured_less : length t - next < length t - at
      measured_less = omega (arith, went.low, went.high)

      module _ {m : ℕ} (z : m ≡ length (encoded d)) where
        pub measured_full : room - n < m → {a : Scanned} → a ≡ Err (full from) → a ≡ cut (full from) limit room 0 (string_reading is_white t q from)
        measured_full h k =
            rw (i.is, went.is (full from) room i.within, cut_full (full from) limit room n m _ _ (sym z) i.within h)
            k

        pub measured_more : m ≤ room - n → Measured t from q limit room next r (n + m)
        measured_more h =
            let w = i.within in
            record {
              within = omega arith;
              is = rw (i.is, went.is (full from) room i.within, cut_adds (full from) limit room n m _ _ (sym z) i.within h);
            }
