-- Demand 3 for a string literal: its limits are 7 and its own refusals are not, so what holds of any such reading holds of it. Assumes nothing.
use Rattle.literal.specs.Scans.{accepted_as}
use Rattle.lex_error.specs.Numbers.{Asked, number_of, asked_then, on_asked}
use Rattle.fault.specs.Faults.{number}
use Rattle.utf8.specs.Table.{chars, well, edge}
use Rattle.std.specs.Prelude.{Err, Ok}
use Prim.Native.Nat.{ℕ, ◌≤◌}
use native.Mathlib.Omega.{arith}
use mathlib.Core.Bool.{false}
use mathlib.Core.List.{List}
use mathlib.Core.Path.{◌≡◌, refl}
use lib.Dec.{eqb, ltb}
use lib.ListN.{length}
use Rattle.basis.proofs.Cases.{pick_cases}
use Rattle.position.specs.declared.Position.{Position}
use Rattle.position.specs.Place.{on_line, begins_line}
use Rattle.chars.specs.Cursors.{cursor}
use Rattle.door.specs.Door.{text_of, door_of}
use Rattle.white.specs.White.{is_white}
use Rattle.literal.specs.Trace.{fails, bytes, final, good, passes}
use Rattle.literal.specs.Cut.{answer}
use Rattle.literal.specs.Told.{refusal_number}
use Rattle.literal.specs.Limits.{FairTrace, Looser, string_limit, literal_room, Cuts}
use Rattle.literal.specs.declared.End.{End}
use Rattle.literal.specs.declared.Refusal.{Refusal}
use Rattle.literal.proofs.Limits.{accepted_whole, uncut_within, recurs_whole, cut_at_the_first}
use Rattle.classes.specs.Marks.{quote, apostrophe, backtick}
use Rattle.literal.specs.Answers.{as_given, full}
use Rattle.string.specs.Reading.{string_reading}
use Rattle.string.proofs.Limits.{reading_fair_trace}
use Rattle.string.specs.Entry.{start_refuses, argument_refuses, string_trace, scan_of}

-- the refusals of the arguments are 1, 2 and 3
Early : Asked → Type 0
Early (Ok u) = Unit {0}
Early (Err e) = number_of e ≤ 3

start_early : (p : Position) (q : ℕ) → Early (start_refuses p q)
unfolding start_refuses Early
start_early p q =
    pick_cases Early (on_line p) _ _
    (λ _. pick_cases Early (eqb q quote) _ _ (λ _. pick_cases Early (begins_line p) _ _ (λ _. omega arith) (λ _. tt))
    (λ _. pick_cases Early (eqb q apostrophe) _ _ (λ _. tt) (λ _. pick_cases Early (eqb q backtick) _ _ (λ _. tt) (λ _. omega arith))))
    (λ _. omega arith)

then_early : (a b : Asked) → Early a → Early b → Early (asked_then a b)
unfolding Early
then_early (Ok u) b h k = k
then_early (Err e) b h k = h

door_early : (t : List ℕ) (at : ℕ) → Early (door_of t at)
unfolding door_of text_of Early
door_early t at =
    then_early (text_of t) _
    (pick_cases Early (ltb 16777216 (length t)) _ _ (λ _. omega arith) (λ _. pick_cases Early (well t) _ _ (λ _. tt) (λ _. omega arith)))
    (pick_cases Early (edge (chars t) at) _ _ (λ _. tt) (λ _. omega arith))

argument_early : (t : List ℕ) (at : ℕ) (p : Position) (q : ℕ) → Early (argument_refuses t at p q)
unfolding argument_refuses
argument_early t at p q = then_early (door_of t at) (start_refuses p q) (door_early t at) (start_early p q)

pub trace_fair_trace : (t : List ℕ) (at : ℕ) (p : Position) (q : ℕ) → FairTrace p (string_trace t at p q)
unfolding string_trace Early
trace_fair_trace t at p q = by (argument_refuses t at p q) (argument_early t at p q)
  where
    by : (a : Asked) → Early a → FairTrace p (on_asked a (string_reading is_white t q (cursor at p)) (λ e. fails (as_given e (cursor at p))))
    by (Ok u) h = reading_fair_trace is_white t q (cursor at p)
    by (Err e) h = (λ y. omega arith, λ y. omega arith, λ y. omega arith)

-- demand 3 of the scan
module _ (t : List ℕ) (at : ℕ) (p : Position) (q : ℕ) where
  -- an accepted literal's length is its body's, and within the room; and it ends as the unlimited rules say
  pub scan_accepted : (limit room : ℕ) (e : End) (n : ℕ) → scan_of t at p q limit room ≡ accepted_as e n
      → (n ≡ length (bytes (string_trace t at p q))) × (n ≤ room) × (final (string_trace t at p q) ≡ good e)
  unfolding scan_of
  scan_accepted limit room e n h = accepted_whole (full (cursor at p)) limit room (string_trace t at p q) e n h

  -- within the limit and the room nothing is cut
  pub scan_uncut : (limit room : ℕ) → length (bytes (string_trace t at p q)) ≤ room → passes limit (length (bytes (string_trace t at p q))) ≡ false
      → scan_of t at p q limit room ≡ answer (length (bytes (string_trace t at p q))) (final (string_trace t at p q))
  unfolding scan_of
  scan_uncut limit room h g = uncut_within (full (cursor at p)) limit room (string_trace t at p q) h g

  -- neither 7 nor 9: the same answer under any looser limit and larger room
  pub scan_recurs : (l m r s : ℕ) → Looser l m → r ≤ s → (refusal_number (scan_of t at p q l r) ≡ 7 → ⊥) → (refusal_number (scan_of t at p q l r) ≡ 9 → ⊥)
      → scan_of t at p q m s ≡ scan_of t at p q l r
  unfolding scan_of
  scan_recurs l m r s o h x y = recurs_whole (full (cursor at p)) l m r s p (string_trace t at p q) refl (trace_fair_trace t at p q) o h x y

  -- 7 comes at the first test that finds more than the limit, 9 at the first step that passes the room, and only there
  pub scan_cut : (limit room : ℕ) (f : Refusal) → scan_of t at p q limit room ≡ Err f
      → (number f.fault ≡ 7 → Cuts (full (cursor at p)) limit room 0 (string_trace t at p q) string_limit f)
      × (number f.fault ≡ 9 → Cuts (full (cursor at p)) limit room 0 (string_trace t at p q) literal_room f)
  unfolding scan_of
  scan_cut limit room f h = cut_at_the_first (full (cursor at p)) limit room p (string_trace t at p q) f refl (trace_fair_trace t at p q) h
