-- The body of a string literal is UTF-8: each turn adds the encoding of a scalar value, or nothing. Assumes nothing.
use Rattle.std.specs.declared.ops.ControlFlow.TheVariants.{Break, Continue}
use Rattle.std.specs.Prelude.{Err, Ok}
use Prim.Native.Nat.{ℕ, suc, ◌+◌, ◌-◌}
use mathlib.Core.Bool.{Bool, true, false}
use mathlib.Core.List.{List, [], ◌∷◌, ◌++◌}
use mathlib.Core.Path.{◌≡◌, refl, ap, ◌∙◌}
use lib.ListN.{length}
use lib.Seq.{drop-append_seam}
use Rattle.position.specs.declared.Position.{Position}
use Rattle.utf8.specs.Table.{Ch, ch, chars_at, well_from, well}
use Rattle.utf8.specs.Encode.{is_scalar, encode, encoded}
use Rattle.utf8.proofs.Encodes.{encoded_scalar, encoded_none}
use Rattle.utf8.proofs.Finds.{look_encode}
use Rattle.utf8.proofs.Laws.{well_cons}
use Rattle.chars.specs.Scan.{Turn, go, stop}
use Rattle.chars.specs.declared.cursor.Cursor.{Cursor}
use Rattle.chars.proofs.Holds.{scan_holds}
use Rattle.literal.specs.Trace.{Trace, checks, Yield, added, tested, yields, bytes}
use Rattle.literal.specs.Answers.{once, too_long}
use Rattle.string_turn.specs.Take.{input_end, take_of}
use Rattle.string_turn.specs.declared.take.Scanning.{Scanning}
use Rattle.string_turn.specs.Answer.{Last}
use Rattle.string_turn.specs.Answer.{Got}
use Rattle.string_turn.specs.Act.{act_of}
use Rattle.string_turn.specs.Answer.{Acted}
use Rattle.string.specs.Ends.{last_of}
use Rattle.string.specs.Reading.{on_got, on_acted, string_turn, string_rule, string_begun, string_reading}

-- the encoding of a character in front of a text, or nothing
encoded_well : (d : ℕ) (bs : List ℕ) → well (encoded d ++ bs) ≡ well bs
encoded_well d bs = by (is_scalar d) refl
  where
    by : (b : Bool) → is_scalar d ≡ b → well (encoded d ++ bs) ≡ well bs
    by true y = rw (encoded_scalar d y) (well_cons (encode d ++ bs) d (length (encode d)) (look_encode d bs y) ∙ ap well (drop-append_seam (encode d) bs))
    by false n = rw (encoded_none d n)

last_well : (start : Position) (last : Last) → well (bytes (last_of start last)) ≡ true
unfolding last_of bytes well well_from
last_well start (Ok e) = refl
last_well start (Err f) = refl

module _ (white : ℕ → Bool) (t : List ℕ) (q : ℕ) (start : Position) where
  abbrev Turned : Turn Scanning (List Yield) Trace → Type 0
  Turned (go ys k r) = (y : Trace) → well (bytes y) ≡ true → well (bytes (yields ys y)) ≡ true
  Turned (stop r) = well (bytes r) ≡ true

  turned : (at : ℕ) (cs : List Ch) (s : Scanning) → Turned (string_turn white t q start at cs s)
  unfolding string_turn yields bytes
  turned at cs s = taken (take_of t q start at s)
    where
      acted : (here : Cursor) (x : Acted)
          → Turned (on_acted x (λ d next r. go (tested (too_long start here (once q)) ∷ added (encoded d) ∷ []) (length cs - suc (length (chars_at t next))) r)
          (λ last. stop (checks (too_long start here (once q)) (last_of start last))))
      acted here (Continue (d, next, r)) = λ y h. encoded_well d (bytes y) ∙ h
      acted here (Break last) = last_well start last

      taken : (x : Got)
          → Turned (on_got x
          (λ c here. on_acted (act_of white t q start c here s)
          (λ d next r. go (tested (too_long start here (once q)) ∷ added (encoded d) ∷ []) (length cs - suc (length (chars_at t next))) r)
          (λ last. stop (checks (too_long start here (once q)) (last_of start last))))
          (λ last. stop (last_of start last)))
      taken (Continue (c, here)) = acted here (act_of white t q start c here s)
      taken (Break last) = last_well start last

  pub body_well : (from : Cursor) → from.place ≡ start → well (bytes (string_reading white t q from)) ≡ true
  unfolding string_reading string_rule
  body_well from e =
      rw e (scan_holds (string_rule white t q start) t (λ at s r. well (bytes r) ≡ true)
      (λ at s. last_well start (input_end q start at s))
      (λ at c w s r e x. rw x at (turned at (ch c w ∷ chars_at t (at + w)) s))
      (λ at c w s n k r e x to y h l z. rw x at (turned at (ch c w ∷ chars_at t (at + w)) s) y z)
      from.at (string_begun start))
