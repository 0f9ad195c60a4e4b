-- A literal, by what opens it, for each way out of the functions. Assumes nothing.
use Rattle.script.specs.Verdicts.{all_fine}
use Rattle.std.specs.Prelude.{Err}
use Prim.Native.Nat.{ℕ, ◌+◌, ◌-◌, ◌≤◌, ◌<◌}
use native.Mathlib.Omega.{arith}
use mathlib.Core.Bool.{true, false}
use mathlib.Core.List.{List, ◌++◌}
use mathlib.Core.Path.{◌≡◌, refl, sym, ap, ◌∙◌}
use lib.Dec.{eqb}
use lib.ListN.{length, take, drop, length-take, length-drop, length-append}
use lib.Seq.{sets, drop-append_seam, take-append_seam}
use borrow.Author.Tests.{eq-eqb, ne_eqb, le-leb, lt-leb}
use borrow.Rule.Slice.PartMut.{put_mid}
use Rattle.basis.specs.Store.{stored, over}
use Rattle.basis.proofs.Stores.{part_sets, sets_front, stored_whole}
use Rattle.utf8.specs.Table.{chars, well, look_at}
use Rattle.white.specs.White.{is_white}
use Rattle.classes.specs.Marks.{hash, apostrophe}
use Rattle.fault.specs.Faults.{still_open, not_one_character, too_deep}
use Rattle.chars.specs.declared.cursor.Cursor.{Cursor}
use Rattle.literal.specs.Trace.{Trace, bytes}
use Rattle.literal.specs.Answers.{full}
use Rattle.literal.specs.Cut.{cut}
use Rattle.literal.specs.declared.End.{End}
use Rattle.raw.specs.Raw.{read_of}
use Rattle.string.specs.Reading.{string_reading}
use Rattle.string.proofs.Bodies.{body_well}
use Rattle.find.specs.declared.Opener.{Opener}
use Rattle.reading.specs.CutRun.{scanned}
use Rattle.reading.specs.declared.Bounds.{Bounds}
use Rattle.script.specs.Rules.{Rules, document01}
use Rattle.script.specs.Steps.{literal_trace, verdict_of}
use Rattle.turn.proofs.OneCharacter.{alone, alone_is, too_many}

-- ---- the reading
module _ (rules : Rules) (t : List ℕ) (o : Opener) (from : Cursor) where
  pub raw_trace_lem : o.terminator ≡ hash → literal_trace rules t o from ≡ read_of rules.newlines t from 0
  unfolding literal_trace
  raw_trace_lem q = rw (eq-eqb o.terminator hash q)

  module _ (n : o.terminator ≡ hash → ⊥) where
    pub string_trace_lem : literal_trace rules t o from ≡ string_reading rules.white t o.terminator from
    unfolding literal_trace
    string_trace_lem = rw (ne_eqb o.terminator hash n)

    pub string_cut : (limit room : ℕ) → cut (full from) limit room 0 (string_reading rules.white t o.terminator from) ≡ cut (full from) limit room 0 (literal_trace rules t o from)
    string_cut limit room = rw string_trace_lem

-- the literal bytes lent are the bounds' literal room
pub in_room_lem : (b : Bounds) (used m : ℕ) (from : Cursor) (t : Trace) → b.literals ≡ m → cut (full from) b.limit (m - used) 0 t ≡ scanned b used from t
in_room_lem b used m from t q = ap (λ (k : ℕ). cut (full from) b.limit (k - used) 0 t) (sym q)

-- ---- one character
module _ (t : List ℕ) (o : Opener) (from : Cursor) (q : o.terminator ≡ apostrophe) where
  abbrev pub body : List ℕ
  body = bytes (literal_trace document01 t o from)

  no_hash : o.terminator ≡ hash → ⊥
  no_hash z = omega (arith, z, q)

  formed : well body ≡ true
  formed = rw (string_trace_lem document01 t o from no_hash) (body_well is_white t o.terminator from.place from refl)

  pub body_long : 4 < length body → false ≡ eqb (length (chars body)) 1
  body_long h = too_many body formed h

  pub body_alone : (old : List ℕ) → alone (look_at (over body old) 0) (length body) ≡ eqb (length (chars body)) 1
  unfolding look_at
  body_alone old = alone_is body formed (drop (length body) old)

-- ---- what is to be said of it
module _ (o : Opener) (level : ℕ) (from : Cursor) (e : End) (bs : List ℕ) where
  pub still_open_lem : (e.on_record.times ≡ 0 → ⊥) → verdict_of o level from e bs ≡ Err (still_open e.cursor.place)
  unfolding verdict_of
  still_open_lem n = rw (ne_eqb e.on_record.times 0 n)

  module _ (z : e.on_record.times ≡ 0) where
    pub too_deep_lem : e.interpolated ≡ true → 16 ≤ level → verdict_of o level from e bs ≡ Err (too_deep from.place)
    unfolding verdict_of
    too_deep_lem i h = rw (eq-eqb e.on_record.times 0 z, i, le-leb 16 level h)

    pub fine_piece : e.interpolated ≡ true → level < 16 → verdict_of o level from e bs ≡ all_fine
    unfolding verdict_of
    fine_piece i h = rw (eq-eqb e.on_record.times 0 z, i, lt-leb 16 level h)

    module _ (i : e.interpolated ≡ false) where
      pub fine_char : o.terminator ≡ apostrophe → eqb (length (chars bs)) 1 ≡ true → verdict_of o level from e bs ≡ all_fine
      unfolding verdict_of
      fine_char q y = rw (eq-eqb e.on_record.times 0 z, i, eq-eqb o.terminator apostrophe q, y)

      pub no_char_lem : o.terminator ≡ apostrophe → eqb (length (chars bs)) 1 ≡ false → verdict_of o level from e bs ≡ Err (not_one_character from.place)
      unfolding verdict_of
      no_char_lem q y = rw (eq-eqb e.on_record.times 0 z, i, eq-eqb o.terminator apostrophe q, y)

      pub fine_other : (o.terminator ≡ apostrophe → ⊥) → verdict_of o level from e bs ≡ all_fine
      unfolding verdict_of
      fine_other n = rw (eq-eqb e.on_record.times 0 z, i, ne_eqb o.terminator apostrophe n)

-- ---- the memory that is not used
module _ (l : List ℕ) (used : ℕ) (bs : List ℕ) (h : used + length bs ≤ length l) where
  abbrev k : ℕ
  k = length l - used

  pub part_room : length bs ≤ length (take k (drop used l))
  part_room = rw (length-take k (drop used l), length-drop used l) (omega arith)

  pub part_stored : put_mid used k l (sets (take k (drop used l)) 0 bs) ≡ sets l used bs
  part_stored = part_sets used k l bs h part_room

  pub part_over : put_mid used k l (over bs (take k (drop used l))) ≡ sets l used bs
  part_over = rw (← sets_front (take k (drop used l)) bs part_room) part_stored

-- ---- a body aside
module _ (body : List ℕ) where
  -- memory with the body in front has it there, whatever was there before
  pub over_again : (old : List ℕ) {l : List ℕ} → l ≡ over body old → l ≡ over body l
  over_again old e = e ∙ ap (λ (r : List ℕ). body ++ r) (sym (drop-append_seam body (drop (length body) old))) ∙ ap (λ (r : List ℕ). over body r) (sym e)

  module _ (aside : List ℕ) (e : aside ≡ over body aside) where
    pub aside_room : length body ≤ length aside
    aside_room = let h = ap length e ∙ length-append body (drop (length body) aside) in omega arith

    pub aside_stored : (l : List ℕ) (used n : ℕ) → n ≡ length body → used + length body ≤ length l → {m : List ℕ} → m ≡ stored l used (take n aside) → m ≡ sets l used body
    aside_stored l used n q h g =
        let front : take n aside ≡ body = rw (q) (ap (take (length body)) e ∙ take-append_seam body (drop (length body) aside)) in
        g ∙ rw (front) (stored_whole l used body h)
