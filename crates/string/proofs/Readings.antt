-- A reading, for each way through a turn, and that its limits are 7. Assumes nothing.
use Rattle.std.specs.declared.ops.ControlFlow.TheVariants.{Break}
use Rattle.std.specs.Prelude.{None, Some}
use Prim.Native.Nat.{ℕ, suc, ◌+◌, ◌-◌, ◌≤◌, ◌<◌}
use native.Mathlib.Omega.{arith}
use mathlib.Core.Bool.{Bool}
use mathlib.Core.List.{List, [], ◌∷◌}
use mathlib.Core.Path.{◌≡◌, refl, sym, ap, ◌∙◌}
use lib.ListN.{length}
use Rattle.position.specs.declared.Position.{Position}
use Rattle.utf8.specs.Table.{chars_at, look_at}
use Rattle.utf8.specs.Encode.{encoded}
use Rattle.utf8.specs.Looks.{Look}
use Rattle.chars.specs.Cursors.{cursor}
use Rattle.chars.specs.Scan.{go, run_at, move_at, on}
use Rattle.chars.specs.declared.cursor.Cursor.{Cursor}
use Rattle.chars.proofs.Scans.{move_on, move_over, at_end_lem, many_on, is_over}
use Rattle.chars.proofs.Cursors.{ate_none}
use Rattle.literal.specs.Trace.{Trace, adds, checks, Yield, added, tested, yields}
use Rattle.literal.specs.declared.Refusal.{Refusal}
use Rattle.literal.specs.Answers.{once, too_long}
use Rattle.escape.specs.Escapes.{no_char}
use Rattle.chars.proofs.Reaches.{Reached, Further, behind, further_on, Counted, counted, further_low, further_high}
use Rattle.string_turn.specs.Take.{input_end, take_of}
use Rattle.string_turn.specs.Act.{act_of}
use Rattle.string_turn.specs.declared.take.Scanning.{Scanning}
use Rattle.string_turn.specs.Answer.{Last, got_char, goes_with}
use Rattle.std.specs.declared.ops.ControlFlow.{ControlFlow}
use Rattle.string_turn.proofs.take.Reaching.{take_gets}
use Rattle.string_turn.proofs.act.Reaching.{act_steps}
use Rattle.string.specs.Ends.{last_of}
use Rattle.string.specs.Reading.{string_turn, string_rule}

over_is : {C : Type 0} {x y : Last} → ◌≡◌ {A = ControlFlow Last C} (Break x) (Break y) → x ≡ y
over_is e = cc

no_over {ℓ} : {A : Type ℓ} {x : Last} {c : ℕ} {here : Cursor} → Break x ≡ got_char c here → A
no_over e = absurd (let z : ◌≡◌ {A = ℕ} 0 1 = cc in omega arith)

module _ (white : ℕ → Bool) (t : List ℕ) (q : ℕ) (start : Position) (at : ℕ) (s : Scanning) where
  -- what is left to read
  abbrev pub reading : ℕ → Scanning → Trace
  reading n r = run_at (string_rule white t q start) t n r

  -- the text ends: nothing is taken
  none_taken : look_at t at ≡ None → take_of t q start at s ≡ Break (input_end q start at s)
  unfolding take_of
  none_taken e = rw (ate_none t (cursor at s.place) e)

  -- the scan is over before the limit is tested
  pub over_at_once : {last : Last} → take_of t q start at s ≡ Break last → reading at s ≡ last_of start last
  unfolding string_rule string_turn
  over_at_once {last} g = by (look_at t at) refl
    where
      by : (x : Look) → look_at t at ≡ x → reading at s ≡ last_of start last
      by (Some (c, w)) e = move_over (string_rule white t q start) t at s (is_over (string_rule white t q start) t at s e (rw g))
      by None e = move_over (string_rule white t q start) t at s (at_end_lem (string_rule white t q start) t at s e) ∙ ap (last_of start) (over_is (sym (none_taken e) ∙ g))

  module _ {c : ℕ} {here : Cursor} (g : take_of t q start at s ≡ got_char c here) where
    further : Further t at here.at
    further = rw g at (take_gets t q start at s)

    -- behind the limit it is over
    pub over_then : {last : Last} → act_of white t q start c here s ≡ Break last → reading at s ≡ checks (too_long start here (once q)) (last_of start last)
    unfolding string_rule string_turn
    over_then {last} f = by (look_at t at) refl
      where
        by : (x : Look) → look_at t at ≡ x → reading at s ≡ checks (too_long start here (once q)) (last_of start last)
        by (Some (c, w)) e = move_over (string_rule white t q start) t at s (is_over (string_rule white t q start) t at s e (rw (g, f)))
        by None e = no_over (sym (none_taken e) ∙ g)

    module _ {d next : ℕ} {r : Scanning} (f : act_of white t q start c here s ≡ goes_with d next r) where
      reached : Reached t here.at next
      reached = rw f at (act_steps t white q start c here s)

      pub goes_low : at < next
      goes_low = further_low (further_on further reached)

      pub goes_high : next ≤ length t
      goes_high = further_high (further_on further reached)

      abbrev notes : List Yield
      notes = tested (too_long start here (once q)) ∷ added (encoded d) ∷ []

      moves : Further t at next → move_at (string_rule white t q start) t at s ≡ on notes next r
      unfolding string_rule string_turn
      moves (behind {w} e p) =
          let n : Counted t (at + w) next = counted p in
          let k : suc (length (chars_at t (at + w))) - suc (length (chars_at t next)) ≡ n.count = omega (arith, n.fewer) in
          many_on (string_rule white t q start) t at s e (rw (g, f) (ap (λ (m : ℕ). go notes m r) k)) ∙ ap (λ (m : ℕ). on notes m r) (sym n.bytes)

      -- it goes on, with the bytes of a character
      pub goes_on : reading at s ≡ checks (too_long start here (once q)) (adds (encoded d) (reading next r))
      unfolding string_rule yields
      goes_on = move_on (string_rule white t q start) t at s (moves (further_on further reached))

-- ---- one turn, or two of which the first adds nothing: with a test of the limit in each it goes on, and only d is added
module _ (white : ℕ → Bool) (t : List ℕ) (q : ℕ) (start : Position) (at : ℕ) (s : Scanning) where
  pub record Once (d next : ℕ) (r : Scanning) : Type 0 where
    pub seven : Refusal
    pub is : reading white t q start at s at s ≡ checks seven (adds (encoded d) (reading white t q start at s next r))
    pub low : at < next
    pub high : next ≤ length t

  pub record Twice (d next : ℕ) (r : Scanning) : Type 0 where
    pub seven : Refusal
    pub eight : Refusal
    pub is : reading white t q start at s at s ≡ checks seven (adds (encoded no_char) (checks eight (adds (encoded d) (reading white t q start at s next r))))
    pub low : at < next
    pub high : next ≤ length t

  module _ {c : ℕ} {here : Cursor} (g : take_of t q start at s ≡ got_char c here) where
    pub once_on : {d next : ℕ} {r : Scanning} → act_of white t q start c here s ≡ goes_with d next r → Once d next r
    once_on f =
        record {
          seven = too_long start here (once q);
          is = goes_on white t q start at s g f;
          low = goes_low white t q start at s g f;
          high = goes_high white t q start at s g f;
        }

    module _ {mid : ℕ} {m : Scanning} (f : act_of white t q start c here s ≡ goes_with no_char mid m) where
      pub twice_on : {c' : ℕ} {here' : Cursor} → take_of t q start mid m ≡ got_char c' here' → {d next : ℕ} {r : Scanning} → act_of white t q start c' here' m ≡ goes_with d next r → Twice d next r
      twice_on {c'} {here'} g' f' =
          record {
            seven = too_long start here (once q);
            eight = too_long start here' (once q);
            is = goes_on white t q start at s g f ∙ ap (λ (x : Trace). checks (too_long start here (once q)) (adds (encoded no_char) x)) (goes_on white t q start mid m g' f');
            low = omega (arith, goes_low white t q start at s g f, goes_low white t q start mid m g' f');
            high = goes_high white t q start mid m g' f';
          }
