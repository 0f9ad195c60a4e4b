-- The body written as it is read: the bytes that are left, stored from here on, make the memory that the whole body makes from the front, where it has room. Assumes nothing.
use Rattle.std.specs.declared.ops.ControlFlow.TheVariants.{Break}
use Rattle.std.specs.Prelude.{Err, Ok}
use Prim.Native.Nat.{ℕ, ◌+◌, ◌≤◌}
use native.Mathlib.Omega.{arith}
use native.Mathlib.Nat.{zero-add}
use mathlib.Core.List.{List, [], ◌∷◌, ◌++◌}
use mathlib.Core.Path.{◌≡◌, refl, sym, ◌∙◌}
use lib.ListN.{length, length-append}
use Rattle.basis.specs.Store.{stored}
use Rattle.basis.proofs.Stores.{stored_whole, length_stored, sets_append, sets_front}
use Rattle.utf8.specs.Encode.{encoded}
use Rattle.white.specs.White.{is_white}
use Rattle.chars.specs.declared.cursor.Cursor.{Cursor}
use Rattle.literal.specs.Trace.{bytes}
use Rattle.literal.specs.Scans.{Scanned, accepted_as}
use Rattle.literal.proofs.Limits.{accepted_from}
use Rattle.literal.specs.Answers.{full}
use Rattle.string_turn.specs.declared.take.Scanning.{Scanning}
use Rattle.string.specs.Reading.{string_begun, string_reading, rest}
use Rattle.string.specs.Limited.{LimitAnswers, GoesOn, Tells}
use Rattle.string.specs.Kept.{BodyKept}
use Rattle.string.specs.Standing.{WrittenSoFar}
use Rattle.string.specs.Answer.{LimitedTurn, turned_to}

none_left : (l : List ℕ) → length l ≡ 0 → l ≡ []
none_left [] e = refl
none_left (x ∷ l) e = absurd (omega arith)

pub written_start : (t : List ℕ) (q : ℕ) (from : Cursor) (out : List ℕ) {s : Scanning} → s ≡ string_begun from.place → WrittenSoFar t q from out out from.at s 0
unfolding string_reading
written_start t q from out e = record { same = refl; count = rw e (zero-add _); is = λ h. rw e }

module _ (t : List ℕ) (q : ℕ) (from : Cursor) (old out : List ℕ) (at : ℕ) (s : Scanning) (n : ℕ) (i : WrittenSoFar t q from old out at s n) where
  -- some bytes were stored, and the rest is left
  pub written_on : {next : ℕ} {r : Scanning} (bs : List ℕ) → bytes (rest t q from.place at s) ≡ bs ++ bytes (rest t q from.place next r)
      → {m : ℕ} {l : List ℕ} → m ≡ n + length bs → l ≡ stored out n bs → WrittenSoFar t q from old l next r m
  written_on {next} {r} bs e {m} {l} u v =
      let b : List ℕ = bytes (rest t q from.place next r) in
      let k : length (bytes (rest t q from.place at s)) ≡ length bs + length b = rw e (length-append bs b) in
      record {
        same = rw (v, length_stored out n bs) i.same;
        count = omega (arith, i.count);
        is = λ h.
            let g : n + length bs ≤ length out = omega (arith, i.count, i.same) in
            i.is h ∙ rw (e, sets_append out n bs b, v, stored_whole out n bs g, u);
      }

  -- a turn that goes on
  module _ (limit : ℕ) {x : LimitedTurn} (g : Tells limit n t q from.place at s x) where
    pub written_more : {d next : ℕ} {r : Scanning} → x ≡ turned_to d next r → {m : ℕ} → m ≡ length (encoded d) → {l : List ℕ} → l ≡ stored out n (encoded d) → WrittenSoFar t q from old l next r (n + m)
    written_more {d} {next} {r} e z v =
        let w : GoesOn limit n t q from.place at s d next r = rw e at g in
        written_on (encoded d) w.body (rw z) v

    -- and one that is over: nothing is left of what is accepted
    pub written_over : (a : Scanned) → x ≡ Break a → BodyKept a (string_reading is_white t q from) old out
    written_over (Ok (end, m)) e =
        let w : LimitAnswers limit n (rest t q from.place at s) (accepted_as end m) = rw e at g in
        let d = accepted_from (full from) limit n n (rest t q from.place at s) end m (omega arith) (w.is (full from) n) in
        let z : bytes (rest t q from.place at s) ≡ [] = none_left _ (omega (arith, d.0, d.1)) in
        λ h. sym (i.is h ∙ rw z) ∙ sets_front old (bytes (string_reading is_white t q from)) h
    written_over (Err f) e = tt
