-- Where a string literal ends. Assumes nothing.
use Rattle.std.specs.declared.ops.ControlFlow.TheVariants.{Break, Continue}
use Rattle.std.specs.Prelude.{Err, Ok}
use Prim.Native.Nat.{ℕ, suc, ◌+◌, ◌-◌, ◌≤◌}
use native.Mathlib.Omega.{arith}
use mathlib.Core.Bool.{Bool, true, false}
use mathlib.Core.List.{List, [], ◌∷◌}
use mathlib.Core.Path.{◌≡◌, refl}
use lib.ListN.{length}
use Rattle.position.specs.declared.Position.{Position}
use Rattle.utf8.specs.Table.{Ch, ch, chars_at}
use Rattle.utf8.specs.Encode.{is_scalar, encoded}
use Rattle.utf8.proofs.Encodes.{encoded_scalar, encoded_none, size_bounds}
use Rattle.chars.specs.Scan.{Turn, go, stop}
use Rattle.chars.specs.declared.cursor.Cursor.{Cursor}
use Rattle.chars.proofs.Holds.{scan_holds}
use Rattle.literal.specs.Trace.{Trace, checks, Yield, added, tested, bytes, final}
use Rattle.literal.proofs.Lands.{LandsFrom, size, lands_behind}
use Rattle.literal.specs.Answers.{once, too_long}
use Rattle.string_turn.specs.Take.{input_end, take_of}
use Rattle.string_turn.specs.declared.take.Scanning.{Scanning}
use Rattle.string_turn.specs.Answer.{Last}
use Rattle.string_turn.specs.Answer.{Got}
use Rattle.string_turn.proofs.take.Lands.{LastLands, GotLands, end_lands, take_lands}
use Rattle.string_turn.specs.Act.{act_of}
use Rattle.string_turn.specs.Answer.{Acted}
use Rattle.string_turn.proofs.act.Lands.{StepLands, act_lands}
use Rattle.string.specs.Ends.{last_of}
use Rattle.string.specs.Reading.{on_got, on_acted, string_turn, string_rule, string_begun, string_reading}

-- a turn adds four bytes at most
few : (d : ℕ) → length (encoded d) ≤ 4
few d = by (is_scalar d) refl
  where
    by : (b : Bool) → is_scalar d ≡ b → length (encoded d) ≤ 4
    by true y = rw (encoded_scalar d y) (size_bounds d).1
    by false n = rw (encoded_none d n) (omega arith)

module _ (t : List ℕ) where
  last_final : (at : ℕ) (start : Position) (last : Last) → LastLands t at last → LandsFrom t at 0 (last_of start last)
  unfolding last_of bytes final
  last_final at start (Ok e) h = h
  last_final at start (Err f) h = tt

  module _ (white : ℕ → Bool) (q : ℕ) (start : Position) where
    abbrev Turned : ℕ → Turn Scanning (List Yield) Trace → Type 0
    Turned at (go ys k r) = size ys ≤ 4
    Turned at (stop r) = LandsFrom t at 0 r

    turned : (at : ℕ) (cs : List Ch) (s : Scanning) → Turned at (string_turn white t q start at cs s)
    unfolding string_turn bytes final
    turned at cs s = taken (take_of t q start at s) (take_lands t q start at s)
      where
        acted : (here : Cursor) (x : Acted) → StepLands t at x
            → Turned at (on_acted x (λ d next r. go (tested (too_long start here (once q)) ∷ added (encoded d) ∷ []) (length cs - suc (length (chars_at t next))) r)
            (λ last. stop (checks (too_long start here (once q)) (last_of start last))))
        acted here (Continue (d, next, r)) p = omega (arith, few d)
        acted here (Break last) p = last_final at start last p

        taken : (x : Got) → GotLands t at x
            → Turned at (on_got x
            (λ c here. on_acted (act_of white t q start c here s)
            (λ d next r. go (tested (too_long start here (once q)) ∷ added (encoded d) ∷ []) (length cs - suc (length (chars_at t next))) r)
            (λ last. stop (checks (too_long start here (once q)) (last_of start last))))
            (λ last. stop (last_of start last)))
        taken (Continue (c, here)) (f, l) = acted here (act_of white t q start c here s) (act_lands white t q start at c here s f l)
        taken (Break last) p = last_final at start last p

    pub string_lands : (from : Cursor) → from.place ≡ start → LandsFrom t from.at 0 (string_reading white t q from)
    unfolding string_reading string_rule
    string_lands from e =
        rw e (scan_holds (string_rule white t q start) t (λ at s r. LandsFrom t at 0 r)
        (λ at s. last_final at start (input_end q start at s) (end_lands t q start at s))
        (λ at c w s r e x. rw x at (turned at (ch c w ∷ chars_at t (at + w)) s))
        (λ at c w s ys k r e x to y h l. lands_behind t at to 0 0 ys y h l (let f = rw x at (turned at (ch c w ∷ chars_at t (at + w)) s) in omega (arith, f)))
        from.at (string_begun start))
