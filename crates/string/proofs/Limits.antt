-- Demand 3 for the reading of a string literal: its limits are 7 at its start, and its own refusals are not 7, 9 or 10. Assumes nothing.
use Rattle.std.specs.declared.ops.ControlFlow.TheVariants.{Break, Continue}
use Rattle.std.specs.Prelude.{Err, Ok}
use Prim.Native.Nat.{ℕ, zero, suc, ◌+◌, ◌-◌}
use mathlib.Core.Bool.{Bool}
use mathlib.Core.List.{List, [], ◌∷◌}
use mathlib.Core.Path.{refl}
use lib.ListN.{length}
use Rattle.position.specs.declared.Position.{Position}
use Rattle.utf8.specs.Table.{Ch, chars_at}
use Rattle.utf8.specs.Encode.{encoded}
use Rattle.chars.specs.Scan.{go, stop, run, run_at, on_turn}
use Rattle.chars.specs.declared.cursor.Cursor.{Cursor}
use Rattle.literal.specs.Trace.{Trace, checks, added, tested, yields}
use Rattle.literal.specs.Limits.{FairTrace}
use Rattle.literal.specs.Answers.{once, too_long}
use Rattle.string_turn.specs.Take.{input_end, take_of}
use Rattle.string_turn.specs.Act.{act_of}
use Rattle.string_turn.specs.declared.take.Scanning.{Scanning}
use Rattle.string_turn.specs.Answer.{Last}
use Rattle.string_turn.specs.Answer.{Got}
use Rattle.string_turn.specs.Answer.{Acted}
use Rattle.string_turn.proofs.take.Reaching.{Fair, Gets, take_gets, end_fair}
use Rattle.string_turn.proofs.act.Reaching.{Steps, act_steps}
use Rattle.string.specs.Ends.{last_of}
use Rattle.string.specs.Reading.{on_got, on_acted, string_turn, string_rule, string_begun, string_reading}

last_fair_trace : (start : Position) (last : Last) → Fair last → FairTrace start (last_of start last)
unfolding last_of
last_fair_trace start (Ok e) p = (refl, tt)
last_fair_trace start (Err f) p = p

module _ (white : ℕ → Bool) (t : List ℕ) (q : ℕ) (start : Position) where
  run_fair_trace : (k : ℕ) (cs : List Ch) (at : ℕ) (s : Scanning) → FairTrace start (run (string_rule white t q start) k cs at s)
  unfolding run string_rule string_turn yields
  run_fair_trace k [] at s = last_fair_trace start (input_end q start at s) (end_fair q start at s)
  run_fair_trace (suc k) (c ∷ cs) at s = run_fair_trace k cs (at + c.width) s
  run_fair_trace zero (c ∷ cs) at s = taken (take_of t q start at s) (take_gets t q start at s) (λ k r. run_fair_trace k cs (at + c.width) r)
    where
      on : ℕ → Scanning → Trace
      on k r = run (string_rule white t q start) k cs (at + c.width) r

      acted : (here : Cursor) (x : Acted) → Steps t here.at x → ((k : ℕ) (r : Scanning) → FairTrace start (on k r))
          → FairTrace start (on_turn (on_acted x (λ d next r. go (tested (too_long start here (once q)) ∷ added (encoded d) ∷ []) (length (c ∷ cs) - suc (length (chars_at t next))) r)
          (λ last. stop (checks (too_long start here (once q)) (last_of start last)))) (λ n k r. yields n (on k r)) (λ r. r))
      acted here (Continue (d, next, r)) p ih = (refl, ih (suc (length cs) - suc (length (chars_at t next))) r)
      acted here (Break last) p ih = (refl, last_fair_trace start last p)

      taken : (x : Got) → Gets t at x → ((k : ℕ) (r : Scanning) → FairTrace start (on k r))
          → FairTrace start (on_turn (on_got x
          (λ d here. on_acted (act_of white t q start d here s)
          (λ d next r. go (tested (too_long start here (once q)) ∷ added (encoded d) ∷ []) (length (c ∷ cs) - suc (length (chars_at t next))) r)
          (λ last. stop (checks (too_long start here (once q)) (last_of start last))))
          (λ last. stop (last_of start last))) (λ n k r. yields n (on k r)) (λ r. r))
      taken (Continue (d, here)) p ih = acted here (act_of white t q start d here s) (act_steps t white q start d here s) ih
      taken (Break last) p ih = last_fair_trace start last p

pub reading_fair_trace : (white : ℕ → Bool) (t : List ℕ) (q : ℕ) (from : Cursor) → FairTrace from.place (string_reading white t q from)
unfolding string_reading run_at
reading_fair_trace white t q from = run_fair_trace white t q from.place 0 (chars_at t from.at) from.at (string_begun from.place)
