-- The numbers of what a run lists, and of how it ends, are u32, over any reading of a script of n bytes that tells small numbers. Assumes nothing.
use Rattle.lex_error.specs.declared.LexError.TheVariants.{NoLiteralRoom, NoTokenRoom}
use Rattle.std.specs.Prelude.{Err, Ok}
use Prim.Native.Nat.{ℕ, ◌+◌, ◌-◌, ◌≤◌}
use native.Mathlib.Omega.{arith}
use native.Mathlib.Nat.{add-zero}
use mathlib.Core.Path.{subst}
use lib.Dec.{ltb}
use lib.ListN.{length, length-append}
use Rattle.basis.proofs.Cases.{pick_cases}
use Rattle.position.specs.declared.Position.{Position}
use Rattle.position.proofs.Small.{Small}
use Rattle.fault.specs.Faults.{no_token_room}
use Rattle.fault.proofs.Small.{Tells, fault_tells}
use Rattle.chars.specs.declared.cursor.Cursor.{Cursor}
use Rattle.literal.specs.Trace.{Trace, bytes}
use Rattle.literal.specs.Limits.{FairTrace}
use Rattle.literal.proofs.Limits.{accepted_whole}
use Rattle.literal.proofs.Small.{Traced, ScannedTells, cut_tells}
use Rattle.reading.specs.Endings.{Ending}
use Rattle.reading.specs.Reading.{Token, Reading, finishes, halts, spoils, lists, reads, Kept, kept, kept_part, Left, entries, literal_bytes, nothing_more, more}
use Rattle.literal.specs.Answers.{full}
use Rattle.reading.specs.CutRun.{scanned, cut_run}
use Rattle.reading.specs.declared.Bounds.{Bounds}
use Rattle.entry.specs.Kinds.{kind_number}
use Rattle.entry.specs.Entries.{numbers_of, laid_out, U32s}
use Rattle.reading.specs.Limits.{Fair}
use Rattle.reading.proofs.Limits.{on_scan_lem}

module _ (n : ℕ) where
  -- a token's kind, its place, and where it stands in the script
  pub record TokenSmall (k : Token) : Type 0 where
    pub kind : kind_number k.kind ≤ 11
    pub place : Small k.start.place
    pub starts : k.start.at ≤ n
    pub ends : k.end.at ≤ n

  abbrev pub Readable : Reading → Type 0
  Readable (finishes p) = Small p
  Readable (halts f) = Tells n f
  Readable (spoils s t f) = Small s.place × Traced n t × Tells n f
  Readable (lists k r) = TokenSmall k × Readable r
  Readable (reads k t r) = TokenSmall k × Traced n t × Readable r

  abbrev pub EndingSmall : Ending → Type 0
  EndingSmall (Ok p) = Small p
  EndingSmall (Err f) = Tells n f

  -- within bounds, where no more than m literal bytes are packed
  module _ (b : Bounds) (m : ℕ) (few : m ≤ 4294967295) (short : n ≤ 4294967295) where
    -- what is left behind so many literal bytes
    abbrev Fitting : ℕ → Left → Type 0
    Fitting used l = used + length (literal_bytes l.tokens) ≤ m → U32s (laid_out numbers_of (entries l.tokens)) × EndingSmall l.ending

    ended_fits : (used : ℕ) (e : Ending) → EndingSmall e → Fitting used (nothing_more e)
    unfolding laid_out entries
    ended_fits used e h l = (tt, h)

    more_fits : (used : ℕ) (k : Kept) (l : Left) → kind_number k.entry.kind ≤ 11 → Small k.entry.place → (used + length k.bytes ≤ m → (k.entry.at ≤ 4294967295) × (k.entry.len ≤ 4294967295))
        → Fitting (used + length k.bytes) l → Fitting used (more k l)
    unfolding laid_out numbers_of entries literal_bytes
    more_fits used k l small p q ih h =
        let long = length-append k.bytes (literal_bytes l.tokens) in
        let rest = ih (omega (arith, h, long)) in
        let parts = q (omega (arith, h, long)) in
        ((omega arith, (omega (arith, p.line), (omega (arith, p.column), (omega (arith, parts.0), (omega (arith, parts.1), rest.0))))), rest.1)

    -- a literal that is refused
    scanned_tells : (used : ℕ) (s : Cursor) (t : Trace) → Small s.place → FairTrace s.place t → Traced n t → ScannedTells n (scanned b used s t)
    scanned_tells used s t p sv h = cut_tells n (full s) (fault_tells n NoLiteralRoom p) s.place p b.limit (b.literals - used) 0 t sv h

    -- no entry is left
    no_entry : (used : ℕ) (p : Position) → Small p → Fitting used (nothing_more (Err (no_token_room p)))
    no_entry used p h = ended_fits used (Err (no_token_room p)) (fault_tells n NoTokenRoom h)

    pub cut_fits_u32 : (i used : ℕ) (r : Reading) → Fair r → Readable r → Fitting used (cut_run b i used r)
    unfolding cut_run
    cut_fits_u32 i used (finishes p) fair h = ended_fits used (Ok p) h
    cut_fits_u32 i used (halts f) fair h = ended_fits used (Err f) h
    cut_fits_u32 i used (spoils s t f) fair h =
        on_scan_lem (Fitting used) (scanned b used s t) _
        (λ e k q. ended_fits used (Err f) h.2)
        (λ g q. ended_fits used (Err g.fault) (subst (ScannedTells n) q (scanned_tells used s t h.0 fair.0 h.1)))
    cut_fits_u32 i used (lists k r) fair h =
        pick_cases (Fitting used) (ltb i b.entries) _ _
        (λ y. more_fits used (kept_part k) (cut_run b (i + 1) used r) h.0.kind h.0.place (λ l. (omega (arith, h.0.starts), omega (arith, h.0.ends))) (rw (add-zero used) (cut_fits_u32 (i + 1) used r fair h.1)))
        (λ y. no_entry used k.start.place h.0.place)
    cut_fits_u32 i used (reads k t r) fair h =
        on_scan_lem (Fitting used) (scanned b used k.start t) _
        (λ e j q.
        let w = (accepted_whole (full k.start) b.limit (b.literals - used) t e j q).0 in
        pick_cases (Fitting used) (ltb i b.entries) _ _
        (λ y. more_fits used (kept k used j (bytes t)) (cut_run b (i + 1) (used + j) r) h.0.kind h.0.place (λ l. (omega arith, omega (arith, w))) (rw (← w) (cut_fits_u32 (i + 1) (used + j) r fair.1 h.2)))
        (λ y. no_entry used k.start.place h.0.place))
        (λ g q. ended_fits used (Err g.fault) (subst (ScannedTells n) q (scanned_tells used k.start t h.0.place fair.0 h.1)))
