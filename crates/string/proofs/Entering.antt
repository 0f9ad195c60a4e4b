-- The entry, for each way through the code: the arguments refused, the scan refused, the scan accepted and its body written. Assumes nothing.
use Rattle.lex_error.specs.declared.LexError.{LexError}
use Rattle.lex_error.specs.Numbers.{Asked}
use Rattle.std.specs.Prelude.{Err, Ok}
use Prim.Native.Nat.{ℕ, ◌≤◌}
use native.Mathlib.Omega.{arith}
use mathlib.Core.List.{List}
use mathlib.Core.Path.{◌≡◌, sym, ◌∙◌}
use lib.ListN.{length}
use Rattle.basis.specs.Store.{over}
use Rattle.position.specs.declared.Position.{Position}
use Rattle.white.specs.White.{is_white}
use Rattle.chars.specs.Cursors.{cursor}
use Rattle.literal.specs.Trace.{bytes}
use Rattle.literal.specs.Cut.{cut, wrote}
use Rattle.literal.specs.declared.End.{End}
use Rattle.literal.specs.Scans.{Scanned, accepted_as}
use Rattle.literal.proofs.Turns.{cut_fails}
use Rattle.literal.proofs.Limits.{accepted_whole}
use Rattle.literal.specs.Answers.{as_given, full}
use Rattle.string.specs.Reading.{string_reading}
use Rattle.string.specs.Entry.{argument_refuses, string_trace, scan_of}

module _ (t : List ℕ) (at : ℕ) (p : Position) (q limit room : ℕ) {n : Asked} (e : n ≡ argument_refuses t at p q) where
  -- the arguments
  pub argument_refused : {x : LexError} → n ≡ Err x → {r : Scanned} → r ≡ Err (as_given x (cursor at p)) → r ≡ scan_of t at p q limit room
  unfolding scan_of string_trace
  argument_refused {x} z k = rw (sym e ∙ z, k) (sym (cut_fails (full (cursor at p)) limit room 0 (as_given x (cursor at p))))

  module _ {u : Unit {0}} (z : n ≡ Ok u) where
    admits : string_trace t at p q ≡ string_reading is_white t q (cursor at p)
    unfolding string_trace
    admits = rw (sym e ∙ z)

    module _ {r : Scanned} (m : r ≡ cut (full (cursor at p)) limit room 0 (string_reading is_white t q (cursor at p))) where
      pub scans : r ≡ scan_of t at p q limit room
      unfolding scan_of
      scans = rw admits m

      module _ {d : End} {k : ℕ} (y : r ≡ accepted_as d k) where
        -- there is room for the body, and it is written
        pub has_room : length (bytes (string_reading is_white t q (cursor at p))) ≤ room
        has_room = let h = accepted_whole (full (cursor at p)) limit room (string_reading is_white t q (cursor at p)) d k (sym m ∙ y) in omega arith

        pub writes : (old : List ℕ) {l : List ℕ} → l ≡ over (bytes (string_reading is_white t q (cursor at p))) old → l ≡ wrote r (string_trace t at p q) old
        unfolding wrote
        writes old w = rw (y, admits) w
