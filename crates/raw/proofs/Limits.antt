-- Demand 3 for raw literals: a limit and a room only cut the reading. Assumes nothing.
use Rattle.literal.specs.Scans.{accepted_as}
use Rattle.std.specs.Prelude.{Ok, Err}
use Rattle.lex_error.specs.Numbers.{Asked}
use Rattle.fault.specs.Faults.{number}
use Prim.Native.Nat.{ℕ, ◌≤◌}
use native.Mathlib.Omega.{arith}
use mathlib.Core.Bool.{false}
use mathlib.Core.List.{List}
use mathlib.Core.Path.{◌≡◌, refl}
use lib.ListN.{length}
use Rattle.position.specs.declared.Position.{Position}
use Rattle.chars.specs.Cursors.{cursor}
use Rattle.chars.specs.declared.cursor.Cursor.{Cursor}
use Rattle.literal.specs.Trace.{bytes, final, good, passes}
use Rattle.literal.specs.Cut.{answer}
use Rattle.literal.specs.Limits.{Looser, FairTrace, string_limit, literal_room, Cuts}
use Rattle.literal.specs.Told.{refusal_number}
use Rattle.literal.specs.declared.End.{End}
use Rattle.literal.specs.declared.Refusal.{Refusal}
use Rattle.literal.proofs.Limits.{accepted_whole, uncut_within, recurs_whole, cut_at_the_first}
use Rattle.literal.specs.Answers.{full}
use Rattle.raw.specs.Raw.{Newlines}
use Rattle.raw.proofs.scan.Limits.{read_fair_trace}
use Rattle.raw.specs.Entries.{raw_trace, enters_of, resumes_of, parse_trace, parse_of, resume_trace, resume_of}
use Rattle.raw.proofs.Refusals.{Early, enters_early, resumes_early}

module _ (mode : Newlines) (t : List ℕ) where
  trace_fair_trace : (a : Asked) (start : Cursor) (k : ℕ) → Early a → FairTrace start.place (raw_trace mode a t start k)
  unfolding raw_trace
  trace_fair_trace (Ok u) start k h = read_fair_trace mode t start k
  trace_fair_trace (Err e) start k h = (λ p. omega (arith, h), λ p. omega (arith, h), λ p. omega (arith, h))

  module _ (at : ℕ) (p : Position) where
    -- entered after the first hash
    pub parse_fair_trace : FairTrace p (parse_trace mode t at p)
    unfolding parse_trace
    parse_fair_trace = trace_fair_trace (enters_of t (cursor at p)) (cursor at p) 0 (enters_early t (cursor at p))

    -- an accepted scan's length is its body's and within the room, and it ends as the unlimited rules say
    pub parse_accepted : (limit room : ℕ) (e : End) (n : ℕ) → parse_of mode t at p limit room ≡ accepted_as e n
        → (n ≡ length (bytes (parse_trace mode t at p))) × (n ≤ room) × (final (parse_trace mode t at p) ≡ good e)
    unfolding parse_of
    parse_accepted limit room e n h = accepted_whole (full (cursor at p)) limit room (parse_trace mode t at p) e n h

    -- within the limit and the room nothing is cut
    pub parse_uncut : (limit room : ℕ) → length (bytes (parse_trace mode t at p)) ≤ room → passes limit (length (bytes (parse_trace mode t at p))) ≡ false
        → parse_of mode t at p limit room ≡ answer (length (bytes (parse_trace mode t at p))) (final (parse_trace mode t at p))
    unfolding parse_of
    parse_uncut limit room h o = uncut_within (full (cursor at p)) limit room (parse_trace mode t at p) h o

    -- neither 7 nor 9: the same answer under any looser limit and larger room
    pub parse_recurs : (l m r s : ℕ) → Looser l m → r ≤ s → (refusal_number (parse_of mode t at p l r) ≡ 7 → ⊥) → (refusal_number (parse_of mode t at p l r) ≡ 9 → ⊥)
        → parse_of mode t at p m s ≡ parse_of mode t at p l r
    unfolding parse_of
    parse_recurs l m r s loose more x y = recurs_whole (full (cursor at p)) l m r s p (parse_trace mode t at p) refl parse_fair_trace loose more x y

    -- 7 comes at the first test that finds more than the limit, 9 at the first step that passes the room, and only there
    pub parse_cut_first : (limit room : ℕ) (f : Refusal) → parse_of mode t at p limit room ≡ Err f
        → (number f.fault ≡ 7 → Cuts (full (cursor at p)) limit room 0 (parse_trace mode t at p) string_limit f)
        × (number f.fault ≡ 9 → Cuts (full (cursor at p)) limit room 0 (parse_trace mode t at p) literal_room f)
    unfolding parse_of
    parse_cut_first limit room f h = cut_at_the_first (full (cursor at p)) limit room p (parse_trace mode t at p) f refl parse_fair_trace h

    -- resumed with a hash count: the same
    module _ (k : ℕ) where
      pub resume_fair_trace : FairTrace p (resume_trace mode t at p k)
      unfolding resume_trace
      resume_fair_trace = trace_fair_trace (resumes_of t (cursor at p) k) (cursor at p) k (resumes_early t (cursor at p) k)

      pub resume_accepted : (limit room : ℕ) (e : End) (n : ℕ) → resume_of mode t at p k limit room ≡ accepted_as e n
          → (n ≡ length (bytes (resume_trace mode t at p k))) × (n ≤ room) × (final (resume_trace mode t at p k) ≡ good e)
      unfolding resume_of
      resume_accepted limit room e n h = accepted_whole (full (cursor at p)) limit room (resume_trace mode t at p k) e n h

      pub resume_uncut : (limit room : ℕ) → length (bytes (resume_trace mode t at p k)) ≤ room → passes limit (length (bytes (resume_trace mode t at p k))) ≡ false
          → resume_of mode t at p k limit room ≡ answer (length (bytes (resume_trace mode t at p k))) (final (resume_trace mode t at p k))
      unfolding resume_of
      resume_uncut limit room h o = uncut_within (full (cursor at p)) limit room (resume_trace mode t at p k) h o

      pub resume_recurs : (l m r s : ℕ) → Looser l m → r ≤ s → (refusal_number (resume_of mode t at p k l r) ≡ 7 → ⊥) → (refusal_number (resume_of mode t at p k l r) ≡ 9 → ⊥)
          → resume_of mode t at p k m s ≡ resume_of mode t at p k l r
      unfolding resume_of
      resume_recurs l m r s loose more x y = recurs_whole (full (cursor at p)) l m r s p (resume_trace mode t at p k) refl resume_fair_trace loose more x y

      pub resume_cut_first : (limit room : ℕ) (f : Refusal) → resume_of mode t at p k limit room ≡ Err f
          → (number f.fault ≡ 7 → Cuts (full (cursor at p)) limit room 0 (resume_trace mode t at p k) string_limit f)
          × (number f.fault ≡ 9 → Cuts (full (cursor at p)) limit room 0 (resume_trace mode t at p k) literal_room f)
      unfolding resume_of
      resume_cut_first limit room f h = cut_at_the_first (full (cursor at p)) limit room p (resume_trace mode t at p k) f refl resume_fair_trace h
