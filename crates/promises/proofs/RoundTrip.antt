-- Demand 2: the theorem of specs/RoundTrip.antt. Assumes nothing.
use Rattle.lex_error.specs.Numbers.{no_refusal}
use Rattle.literal.specs.Scans.{accepted_as}
use Rattle.std.specs.Prelude.{Ok}
use Prim.Native.Nat.{ℕ, zero, suc, ◌+◌, ◌≤◌, ◌<◌}
use native.Mathlib.Omega.{arith}
use native.Mathlib.Nat.{zero-add, add-zero}
use mathlib.Core.Bool.{true, false}
use mathlib.Core.List.{List, [], ◌∷◌, ◌++◌, append_assoc}
use mathlib.Core.Path.{◌≡◌, refl, sym, ap, ◌∙◌}
use lib.ListN.{length, drop, get_or, replicate, length-append, length-replicate}
use lib.Seq.{take_at, drop-append-add, get_or-drop}
use Rattle.basis.specs.Store.{over}
use Rattle.position.specs.declared.Position.{Position}
use Rattle.position.specs.Place.{none, on_line}
use Rattle.utf8.specs.Table.{chars, codes, well}
use Rattle.utf8.proofs.Edges.{boundary_low}
use Rattle.utf8.proofs.Unicode.{well_encoded}
use Rattle.chars.specs.Cursors.{cursor}
use Rattle.door.proofs.Doors.{let_in, text_good}
use Rattle.literal.specs.Trace.{Trace, bytes, passes}
use Rattle.literal.specs.Cut.{answer, wrote}
use Rattle.literal.specs.Told.{told}
use Rattle.literal.specs.declared.End.{End}
use Rattle.literal.specs.Answers.{nothing}
use Rattle.raw.specs.Answer.{Opened, opened_as}
use Rattle.raw.proofs.open.Openings.{is_fresh}
use Rattle.raw.specs.Raw.{as_source, raw_end, body_state, body_of, behind_opening, read_of}
use Rattle.raw.proofs.write.Parts.{stands_there}
use Rattle.raw.specs.Entries.{parse_trace, parse_of, enters_of}
use Rattle.raw.proofs.Limits.{parse_uncut}
use Rattle.raw.proofs.Refusals.{on_line_lem, reads_on}
use Rattle.raw_writer.specs.Writer.{most_after_quote, hashes_for, raw_literal_of, raw_write_of, raw_left_of}
use Rattle.classes.specs.Marks.{quote, hash}
use Rattle.raw_writer.proofs.Hashes.{reach}
use Rattle.raw_writer.proofs.Writes.{length_literal, done, written}
use Rattle.promises.specs.LiteralPlaces.{columns, behind_first, first_place, end_place}
use Rattle.promises.specs.RoundTrip.{raw_writer, made, read_back, RoundTrip}
use Rattle.promises.proofs.Places.{unset, columns_on}
use Rattle.promises.proofs.Readings.{further, opens, Reads, reads}

-- the literal behind its first hash: the other hashes and the opening quote; the body; the closing quote and hashes
behind_hash : (body after : List ℕ) → raw_literal_of body ++ after ≡ hash ∷ (replicate (most_after_quote body) hash ++ (quote ∷ body ++ (quote ∷ replicate (hashes_for body) hash ++ after)))
unfolding raw_literal_of hashes_for
behind_hash body after = simp append_assoc

module _ (body before after : List ℕ) where
  abbrev text : List ℕ
  text = before ++ raw_literal_of body ++ after

  abbrev at : ℕ
  at = length before + 1

  -- what stands behind the first hash
  stands : drop at text ≡ replicate (most_after_quote body) hash ++ (quote ∷ body ++ (quote ∷ replicate (hashes_for body) hash ++ after))
  stands = ap (drop at) (append_assoc before (raw_literal_of body) after) ∙ drop-append-add before (raw_literal_of body ++ after) 1 ∙ ap (drop 1) (behind_hash body after)

  begins : (m : ℕ) (l : List ℕ) → get_or (replicate m hash ++ (quote ∷ l)) 0 0 < 0x80
  begins zero l = omega arith
  begins (suc m) l = omega arith

  -- the text behind the opening quote
  inside : drop (at + suc (most_after_quote body)) text ≡ body ++ (quote ∷ replicate (hashes_for body) hash ++ after)
  inside =
      let m = most_after_quote body in
      let n : length (replicate m hash ++ (quote ∷ [])) ≡ suc m = simp (length-append, length-replicate) (omega arith) in
      rw n at (further text at (replicate m hash ++ (quote ∷ [])) (body ++ (quote ∷ replicate (hashes_for body) hash ++ after)) (stands ∙ sym (append_assoc (replicate m hash) (quote ∷ []) (body ++ (quote ∷ replicate (hashes_for body) hash ++ after)))))

  module _ (start : Position) (formed : well text ≡ true) (short : length text ≤ 16777216) (online : on_line start ≡ true) where
    -- the scanner lets the text in
    fits : at < length text
    fits = omega (arith, length-append (before ++ raw_literal_of body) after, length-append before (raw_literal_of body), length_literal body)

    lets_in : enters_of text (cursor at start) ≡ no_refusal
    lets_in =
        let b : get_or text at 0 < 0x80 = rw (get_or-drop at text 0 0, add-zero at) at (rw (← stands) at (begins (most_after_quote body) (body ++ (quote ∷ replicate (hashes_for body) hash ++ after)))) in
        on_line_lem text (cursor at start) (let_in text at (text_good text short formed) (boundary_low text at fits b)) online

    -- where the body begins, and how the literal ends
    abbrev from : ℕ
    from = at + suc (most_after_quote body)

    abbrev end : End
    end = raw_end (cursor (length before + length (raw_literal_of body)) (end_place body start)) (first_place body start) nothing

    abbrev trace : Trace
    trace = parse_trace as_source text at start

    -- the opening leads to the body
    opened : trace ≡ body_of as_source text start (hashes_for body) (cursor from (columns (hashes_for body) start))
    unfolding parse_trace hashes_for read_of
    opened =
        let k : 1 + most_after_quote body ≡ suc (most_after_quote body) = omega arith in
        reads_on as_source text (cursor at start) 0 lets_in
        ∙ ap (λ (x : Opened). behind_opening as_source text start x) (is_fresh text (cursor at start) refl
        ∙ opens text start (most_after_quote body) 1 at start (body ++ (quote ∷ replicate (hashes_for body) hash ++ after)) stands
        ∙ ap (λ (n : ℕ). opened_as n (cursor from (columns (hashes_for body) start))) k)

    module _ (good-body : well body ≡ true) where
      whole : Reads trace (length body) end
      unfolding end_place first_place hashes_for reach body_of
      whole =
          let cs = codes (chars body) in
          let k = hashes_for body in
          let w = well_encoded body good-body in
          let r = reads text start k cs from (body_state 0 (columns k start) none) after w.0 (rw w.1 inside) (columns_on k start ∙ online) (omega arith) (rw w.1 (omega arith)) in
          let z : length before + length (raw_literal_of body) ≡ from + length body + suc k = omega (arith, length_literal body) in
          rw (opened, z) (rw (w.1, zero-add (length body), unset (behind_first false cs (columns k start))) at r)

      -- a raw body is a part of the text
      body_is : bytes trace ≡ body
      body_is =
          let s = stands_there as_source start text (hashes_for body) (cursor from (columns (hashes_for body) start)) in
          rw (← opened, whole.size, inside) at s ∙ take_at body (quote ∷ replicate (hashes_for body) hash ++ after) (length body) refl

      module _ (limit : ℕ) (buffer : List ℕ) (within : passes limit (length body) ≡ false) (room : length body ≤ length buffer) where
        scanned : parse_of as_source text at start limit (length buffer) ≡ accepted_as end (length body)
        unfolding answer
        scanned = parse_uncut as_source text at start limit (length buffer) (rw body_is room) (rw body_is within) ∙ rw (body_is, whole.ends)

        told_so : told (parse_of as_source text at start limit (length buffer)) ≡ read_back body (length before) start
        unfolding told
        told_so = rw scanned

        left_so : wrote (parse_of as_source text at start limit (length buffer)) trace buffer ≡ over body buffer
        unfolding wrote
        left_so = rw (scanned, body_is)

-- what the writer makes is the literal
module _ (body lent : List ℕ) (formed : well body ≡ true) (short : length body ≤ 16777216) (room : length (raw_literal_of body) ≤ length lent) where
  answered : raw_write_of body lent ≡ Ok (length (raw_literal_of body))
  answered = let n = length_literal body in sym (done body lent (text_good body short formed) refl (omega arith)) ∙ ap Ok (sym n)

  makes : made (raw_write_of body lent) (raw_left_of body lent) ≡ raw_literal_of body
  makes =
      let n = length_literal body in
      rw (answered, ← written body lent (text_good body short formed) refl (omega arith) refl) (take_at (raw_literal_of body) (drop (length (raw_literal_of body)) lent) (length (raw_literal_of body)) refl)

pub round_trip : RoundTrip
round_trip body before after lent buffer start limit formed online admitted room within space =
    let n : length body ≤ 16777216 = omega (arith, admitted.1, length-append (before ++ raw_literal_of body) after, length-append before (raw_literal_of body), length_literal body) in
    let m : made (raw_writer.answers body lent) (raw_writer.leaves body lent) ≡ raw_literal_of body = makes body lent formed n room in
    rw m
    (record {
      is_written = answered body lent formed n room;
      end = end body before after start admitted.0 admitted.1 online;
      is_accepted = scanned body before after start admitted.0 admitted.1 online formed limit buffer within space;
      is_told = told_so body before after start admitted.0 admitted.1 online formed limit buffer within space;
      is_left = left_so body before after start admitted.0 admitted.1 online formed limit buffer within space;
    })
