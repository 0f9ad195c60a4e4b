-- The theorems NumbersFit and BytesTell of specs/Numbers.antt. Assumes nothing.
use Rattle.std.specs.Prelude.{Err, Ok}
use Prim.Native.Nat.{ℕ, ◌≤◌}
use native.Mathlib.Omega.{arith}
use mathlib.Core.List.{List, [], ◌∷◌, ◌++◌, append_assoc}
use mathlib.Core.Path.{◌≡◌, refl, sym, ap, ◌∙◌}
use lib.ListN.{length, take, drop}
use lib.Seq.{take_at, drop_at}
use Rattle.numbers.specs.Spell.{spell, spelled, value}
use Rattle.numbers.proofs.Rows.{length_spell, length_spelled}
use Rattle.numbers.proofs.Whole.{spell_tells}
use Rattle.entry.specs.Entries.{numbers_of, laid_out, U32s}
use Rattle.reading.specs.Reading.{entries, literal_bytes}
use Rattle.reading.specs.Told.{ending_number, ending_place, ending_part}
use Rattle.entry.specs.declared.Entry.{Entry}
use Rattle.reading.specs.Endings.{Ending}
use Rattle.reading.proofs.Small.{EndingSmall}
use Rattle.script.specs.Rules.{document01}
use Rattle.run.specs.Run.{run_of}
use Rattle.run.proofs.Short.{run_small}
use Rattle.run.proofs.Small.{run_fits_u32}
use Rattle.run.specs.Bytes.{entry_bytes}
use Rattle.stew.specs.RunAnswer.{tells_of}
use Rattle.promises.specs.Numbers.{entry_numbers, answer_numbers, NumbersFit, BytesTell}

-- ---- the seven
seven_fit : (e : Ending) → EndingSmall 16777216 e → (listed used : ℕ) → listed ≤ 16777216 → used ≤ 67108864 → U32s (tells_of e listed used)
unfolding tells_of ending_number ending_place ending_part
seven_fit (Ok p) h listed used l m = (omega arith, (omega (arith, h.line), (omega (arith, h.column), (omega arith, (omega arith, (omega arith, (omega arith, tt)))))))
seven_fit (Err f) h listed used l m =
    (omega (arith, h.number), (omega (arith, h.place.line), (omega (arith, h.place.column), (omega arith, (omega arith, (omega (arith, h.at), (omega (arith, h.len), tt)))))))

pub numbers_fit : NumbersFit
numbers_fit script book b =
    let l = run_of document01 b script book in
    let fit = run_fits_u32 document01 b script book in
    let few = run_small document01 b script book in
    record { entries = fit.0; answer = seven_fit l.ending fit.1 (length (entries l.tokens)) (length (literal_bytes l.tokens)) few.0 few.1 }

-- ---- bytes
-- as many numbers, spelt alike, are the same
spelt_alike : (ns ms : List ℕ) → U32s ns → U32s ms → length ns ≡ length ms → spelled 4 ns ≡ spelled 4 ms → ns ≡ ms
unfolding spelled
spelt_alike [] [] f g l e = refl
spelt_alike [] (m ∷ ms) f g l e = absurd (omega (arith, l))
spelt_alike (n ∷ ns) [] f g l e = absurd (omega (arith, l))
spelt_alike (n ∷ ns) (m ∷ ms) f g l e =
    let first : spell 4 n ≡ spell 4 m = sym (take_at (spell 4 n) (spelled 4 ns) 4 (length_spell 4 n)) ∙ ap (take 4) e ∙ take_at (spell 4 m) (spelled 4 ms) 4 (length_spell 4 m) in
    let rest : spelled 4 ns ≡ spelled 4 ms = sym (drop_at (spell 4 n) (spelled 4 ns) 4 (length_spell 4 n)) ∙ ap (drop 4) e ∙ drop_at (spell 4 m) (spelled 4 ms) 4 (length_spell 4 m) in
    let same : n ≡ m = sym (spell_tells 4 n f.0) ∙ ap value first ∙ spell_tells 4 m g.0 in
    let alike : ns ≡ ms = spelt_alike ns ms f.1 g.1 (omega (arith, l)) rest in
    ap (λ (k : ℕ). k ∷ ns) same ∙ ap (λ (ks : List ℕ). m ∷ ks) alike

spelled_both : (ns ms : List ℕ) → spelled 4 (ns ++ ms) ≡ spelled 4 ns ++ spelled 4 ms
unfolding spelled
spelled_both [] ms = refl
spelled_both (n ∷ ns) ms = ap (λ (l : List ℕ). spell 4 n ++ l) (spelled_both ns ms) ∙ sym (append_assoc (spell 4 n) (spelled 4 ns) (spelled 4 ms))

-- entries as bytes are their numbers, four bytes each
laid_spelled : (es : List Entry) → laid_out entry_bytes es ≡ spelled 4 (laid_out numbers_of es)
unfolding laid_out entry_bytes spelled
laid_spelled [] = refl
laid_spelled (e ∷ es) = ap (λ (l : List ℕ). spelled 4 (numbers_of e) ++ l) (laid_spelled es) ∙ sym (spelled_both (numbers_of e) (laid_out numbers_of es))

-- as many bytes are as many numbers
as_many : (ns ms : List ℕ) → spelled 4 ns ≡ spelled 4 ms → length ns ≡ length ms
as_many ns ms e = omega (arith, ap (λ (l : List ℕ). length l) e, length_spelled 4 ns, length_spelled 4 ms)

pub bytes_tell : BytesTell
bytes_tell script script' book book' b b' =
    let l = run_of document01 b script book in
    let m = run_of document01 b' script' book' in
    let f = numbers_fit script book b in
    let g = numbers_fit script' book' b' in
    record {
      entries = λ e. let q = sym (laid_spelled (entries l.tokens)) ∙ e ∙ laid_spelled (entries m.tokens) in spelt_alike (entry_numbers l) (entry_numbers m) f.entries g.entries (as_many (entry_numbers l) (entry_numbers m) q) q;
      answer = λ e. spelt_alike (answer_numbers l) (answer_numbers m) f.answer g.answer (as_many (answer_numbers l) (answer_numbers m) e) e;
    }
