-- Demand 3, carried to the functions. A call's `Learnt` is what the function's contract in src/lib.rt says of what was lent, what was answered and what is held then. Assumes nothing.
use Prim.Native.Nat.{ℕ, ◌*◌, ◌≤◌}
use native.Mathlib.Omega.{arith}
use mathlib.Core.List.{List, [], ◌∷◌, ◌++◌, append_assoc}
use mathlib.Core.Path.{◌≡◌, refl, sym, ap, ◌∙◌}
use lib.ListN.{length, take, drop, length-append}
use lib.Seq.{take_at}
use borrow.Author.Tests.{le-ltb}
use contract.Lifetimes.{Lfts}
use denote.MutBor.{MutBor}
use denote.Ref.{Bor}
use Rattle.basis.specs.Store.{over}
use Rattle.numbers.specs.Spell.{spell, spelled}
use Rattle.numbers.proofs.Whole.{spell_tells}
use Rattle.reading.specs.Reading.{Kept, Left, entries, literal_bytes}
use Rattle.entry.specs.Entries.{numbers_of, laid_out}
use Rattle.entry.specs.declared.Entry.{Entry}
use Rattle.entry.proofs.Layouts.{laid_length, laid_append}
use Rattle.reading.specs.Told.{ending_number}
use Rattle.reading.specs.Limits.{Wider, Begins, EndsOwn}
use Rattle.reading.specs.declared.Bounds.{Bounds}
use Rattle.reading.specs.Endings.{Ending}
use Rattle.script.specs.Rules.{document01}
use Rattle.run.specs.Run.{run_reading, bounds_of, run_of, literals_of, entries_of, Called, called, holds}
use Rattle.run.specs.declared.Ran.{Ran}
use Rattle.run.specs.Bytes.{entry_bytes}
use Rattle.run.proofs.Rows.{five, twenty}
use Rattle.run.proofs.Short.{run_small}
use Rattle.run.proofs.run.Reads as rattle
use Rattle.stew.specs.RunAnswer.{tells_of, tells, CCalled, c_called, c_holds, leaves, stew_run_of}
use Rattle.stew.proofs.runs.stew_run.Reads as c
use Rattle.promises.specs.Limits.{FirstThatPasses, before, unlimited}
use Rattle.promises.specs.RunCalls.{NoStricter, RepeatsCall, listed_in, used_in, RepeatsCCall}
use Rattle.promises.proofs.Limits.{ours_meet}

-- ---- some tokens, and others behind them
entries_append : (ks js : List Kept) → entries (ks ++ js) ≡ entries ks ++ entries js
unfolding entries
entries_append [] js = refl
entries_append (k ∷ ks) js = ap (λ (es : List Entry). k.entry ∷ es) (entries_append ks js)

packed_append : (ks js : List Kept) → literal_bytes (ks ++ js) ≡ literal_bytes ks ++ literal_bytes js
unfolding literal_bytes
packed_append [] js = refl
packed_append (k ∷ ks) js = ap (λ (bs : List ℕ). k.bytes ++ bs) (packed_append ks js) ∙ sym (append_assoc k.bytes (literal_bytes ks) (literal_bytes js))

-- ---- what begins another is its front in memory
module _ (l m : Left) (first : Begins l m) (old old' : List ℕ) where
  abbrev es : List Entry
  es = entries l.tokens

  abbrev ls : List ℕ
  ls = literal_bytes l.tokens

  more_entries : entries m.tokens ≡ es ++ entries first.further
  more_entries = ap entries first.tokens ∙ entries_append l.tokens first.further

  more_packed : literal_bytes m.tokens ≡ ls ++ literal_bytes first.further
  more_packed = ap literal_bytes first.tokens ∙ packed_append l.tokens first.further

  pub front_literals : take (length ls) (literals_of m old') ≡ take (length ls) (literals_of l old)
  front_literals =
      let rest = drop (length (literal_bytes m.tokens)) old' in
      ap (λ (x : List ℕ). take (length ls) (x ++ rest)) more_packed
      ∙ ap (take (length ls)) (append_assoc ls (literal_bytes first.further) rest)
      ∙ take_at ls (literal_bytes first.further ++ rest) (length ls) refl
      ∙ sym (take_at ls (drop (length ls) old) (length ls) refl)

  pub front_entries : (laid : Entry → List ℕ) (n : ℕ) → length (laid_out laid es) ≡ n → take n (entries_of laid m old') ≡ take n (entries_of laid l old)
  front_entries laid n q =
      let rest = drop (length (laid_out laid (entries m.tokens))) old' in
      let x = laid_out laid es in
      let y = laid_out laid (entries first.further) in
      ap (λ (z : List ℕ). take n (z ++ rest)) (ap (laid_out laid) more_entries ∙ laid_append laid es (entries first.further))
      ∙ ap (take n) (append_assoc x y rest)
      ∙ take_at x (y ++ rest) n q
      ∙ sym (take_at x (drop (length x) old) n q)

  pub no_fewer : length es ≤ length (entries m.tokens)
  no_fewer = rw (more_entries, length-append es (entries first.further)) (omega arith)

  pub no_less : length ls ≤ length (literal_bytes m.tokens)
  no_less = rw (more_packed, length-append ls (literal_bytes first.further)) (omega arith)

-- ---- `run`
module _ (script book : List ℕ) where
  -- what a run leaves in a call that is lent so much
  abbrev left : ℕ → List ℕ → List ℕ → Left
  left limit literals memory = run_of document01 (bounds_of 5 limit (length literals) (length memory)) script book

  -- what the contract says of the call
  abbrev says : ℕ → List ℕ → List ℕ → Called
  says limit literals memory = holds numbers_of (left limit literals memory) literals memory

  two_runs : (limit limit' : ℕ) (literals literals' memory memory' : List ℕ) → NoStricter limit limit' literals literals' memory memory'
      → RepeatsCall (says limit literals memory) (says limit' literals' memory')
  two_runs limit limit' literals literals' memory memory' wide =
      let w : Wider (bounds_of 5 limit (length literals) (length memory)) (bounds_of 5 limit' (length literals') (length memory')) = (wide.limits, wide.more_bytes, omega (arith, wide.more_entries)) in
      let l = left limit literals memory in
      let m = left limit' literals' memory' in
      let h = (ours_meet script book).repeats _ _ w in
      record {
        no_fewer = no_fewer l m h literals literals';
        entries = front_entries l m h memory memory' numbers_of (5 * length (entries l.tokens)) (omega (arith, laid_length numbers_of 5 five (entries l.tokens)));
        no_less = no_less l m h literals literals';
        literals = front_literals l m h literals literals';
        recurs = λ own. ap (λ (k : Left). record { ending = k.ending; listed = length (entries k.tokens); used = length (literal_bytes k.tokens) }) ((ours_meet script book).recurs _ _ w own);
      }

-- `run` was lent a script, a book, a limit and two memories, and answered r
module _
    (κs : Lfts 4)
    (script script' book book' : Bor (List ℕ))
    (literals literals' memory memory' : MutBor (List ℕ))
    (limit limit' : ℕ)
    (r : Ran)
    (call : rattle.Learnt κs (script, (book, (limit, (literals, (memory, tt))))) r (script', (book', (limit', (literals', (memory', tt)))))) where
  abbrev bounds : Bounds
  bounds = bounds_of 5 limit (length literals.now) (length memory.now)

  -- a token passes, and the memory holds what is before the first one that does
  pub run_call_stops : (x : FirstThatPasses bounds (run_reading document01 script.now book.now)) → called r literals'.now memory'.now ≡ holds numbers_of (before x) literals.now memory.now
  run_call_stops x = call ∙ ap (λ (l : Left). holds numbers_of l literals.now memory.now) ((ours_meet script.now book.now).stops bounds x)

  -- none passes, and the memory holds everything
  pub run_call_all : (FirstThatPasses bounds (run_reading document01 script.now book.now) → ⊥)
      → called r literals'.now memory'.now ≡ holds numbers_of (unlimited (run_reading document01 script.now book.now)) literals.now memory.now
  run_call_all none = call ∙ ap (λ (l : Left). holds numbers_of l literals.now memory.now) ((ours_meet script.now book.now).else_all bounds none)

-- `run` was lent a script, a book, a limit and two memories, and answered r; and the same script and book again, another limit and two other memories, and answered s
module _
    (κs ιs : Lfts 4)
    (script script' book book' : Bor (List ℕ))
    (literals literals' memory memory' : MutBor (List ℕ))
    (limit limit' : ℕ)
    (r : Ran)
    (again again' same same' : Bor (List ℕ))
    (bytes bytes' rows rows' : MutBor (List ℕ))
    (loose loose' : ℕ)
    (s : Ran)
    (first : rattle.Learnt κs (script, (book, (limit, (literals, (memory, tt))))) r (script', (book', (limit', (literals', (memory', tt))))))
    (second : rattle.Learnt ιs (again, (same, (loose, (bytes, (rows, tt))))) s (again', (same', (loose', (bytes', (rows', tt)))))) where
  pub run_calls_repeat : again.now ≡ script.now → same.now ≡ book.now → NoStricter limit loose literals.now bytes.now memory.now rows.now
      → RepeatsCall (called r literals'.now memory'.now) (called s bytes'.now rows'.now)
  run_calls_repeat p q wide =
      rw (first, second, p, q) (two_runs script.now book.now limit loose literals.now bytes.now memory.now rows.now wide)

-- ---- `stew_run`
-- the numbers that the bytes of an answer tell
module _ (e : Ending) (listed used : ℕ) (old : List ℕ) where
  abbrev told : List ℕ
  told = over (spelled 4 (tells_of e listed used)) old

  told_listed : listed ≤ 16777216 → listed_in told ≡ listed
  unfolding tells_of spelled spell
  told_listed h = spell_tells 4 listed (omega arith)

  told_used : used ≤ 67108864 → used_in told ≡ used
  unfolding tells_of spelled spell
  told_used h = spell_tells 4 used (omega arith)

  told_whole : take 28 told ≡ spelled 4 (tells_of e listed used)
  unfolding tells_of spelled spell
  told_whole = refl

-- a stop that is none of 7, 9 and 10
own_number : (l : Left) → (ending_number l.ending ≡ 7 → ⊥) → (ending_number l.ending ≡ 9 → ⊥) → (ending_number l.ending ≡ 10 → ⊥) → EndsOwn l
unfolding ending_number
own_number l x y z f h = (λ e. x (rw h e), λ e. y (rw h e), λ e. z (rw h e))

module _ (script book : List ℕ) where
  -- what the contract says of a call whose answer has room
  abbrev c_says : ℕ → List ℕ → List ℕ → List ℕ → CCalled
  c_says limit literals memory answer = c_holds (leaves script book limit literals memory) literals memory answer

  c_call : (limit : ℕ) (literals memory answer : List ℕ) → 28 ≤ length answer → stew_run_of script book limit literals memory answer ≡ c_says limit literals memory answer
  unfolding stew_run_of
  c_call limit literals memory answer room = rw (le-ltb (length answer) 28 room)

  two_c_runs : (limit limit' : ℕ) (literals literals' memory memory' answer answer' : List ℕ) → NoStricter limit limit' literals literals' memory memory'
      → RepeatsCCall (c_says limit literals memory answer) (c_says limit' literals' memory' answer')
  two_c_runs limit limit' literals literals' memory memory' answer answer' wide =
      let w : Wider (bounds_of 20 limit (length literals) (length memory)) (bounds_of 20 limit' (length literals') (length memory')) = (wide.limits, wide.more_bytes, omega (arith, wide.more_entries)) in
      let l = leaves script book limit literals memory in
      let m = leaves script book limit' literals' memory' in
      let h = (ours_meet script book).repeats _ _ w in
      let n = run_small document01 (bounds_of 20 limit (length literals) (length memory)) script book in
      let o = run_small document01 (bounds_of 20 limit' (length literals') (length memory')) script book in
      let listed = told_listed l.ending (length (entries l.tokens)) (length (literal_bytes l.tokens)) answer n.0 in
      let used = told_used l.ending (length (entries l.tokens)) (length (literal_bytes l.tokens)) answer n.1 in
      let listed' = told_listed m.ending (length (entries m.tokens)) (length (literal_bytes m.tokens)) answer' o.0 in
      let used' = told_used m.ending (length (entries m.tokens)) (length (literal_bytes m.tokens)) answer' o.1 in
      record {
        no_fewer = rw (listed, listed') (no_fewer l m h literals literals');
        entries = rw listed (front_entries l m h memory memory' entry_bytes (20 * length (entries l.tokens)) (omega (arith, laid_length entry_bytes 20 twenty (entries l.tokens))));
        no_less = rw (used, used') (no_less l m h literals literals');
        literals = rw used (front_literals l m h literals literals');
        recurs = λ x y z.
            let e : m ≡ l = (ours_meet script book).recurs _ _ w (own_number l x y z) in (
              ap (λ (k : Left). ending_number k.ending) e,
              told_whole m.ending (length (entries m.tokens)) (length (literal_bytes m.tokens)) answer'
                  ∙ ap (λ (k : Left). spelled 4 (tells k)) e
                  ∙ sym (told_whole l.ending (length (entries l.tokens)) (length (literal_bytes l.tokens)) answer),
            );
      }

-- `stew_run` was lent a script, a book, a limit and three memories, and returned r. Its answer has room
module _
    (κs : Lfts 5)
    (script script' book book' : Bor (List ℕ))
    (literals literals' memory memory' answer answer' : MutBor (List ℕ))
    (limit limit' r : ℕ)
    (call : c.Learnt κs (script, (book, (limit, (literals, (memory, (answer, tt)))))) r (script', (book', (limit', (literals', (memory', (answer', tt)))))))
    (room : 28 ≤ length answer.now) where
  abbrev c_bounds : Bounds
  c_bounds = bounds_of 20 limit (length literals.now) (length memory.now)

  is_held : c_called r literals'.now memory'.now answer'.now ≡ c_says script.now book.now limit literals.now memory.now answer.now
  is_held = call ∙ c_call script.now book.now limit literals.now memory.now answer.now room

  pub stew_run_call_stops : (x : FirstThatPasses c_bounds (run_reading document01 script.now book.now))
      → c_called r literals'.now memory'.now answer'.now ≡ c_holds (before x) literals.now memory.now answer.now
  stew_run_call_stops x = is_held ∙ ap (λ (l : Left). c_holds l literals.now memory.now answer.now) ((ours_meet script.now book.now).stops c_bounds x)

  pub stew_run_call_all : (FirstThatPasses c_bounds (run_reading document01 script.now book.now) → ⊥)
      → c_called r literals'.now memory'.now answer'.now ≡ c_holds (unlimited (run_reading document01 script.now book.now)) literals.now memory.now answer.now
  stew_run_call_all none = is_held ∙ ap (λ (l : Left). c_holds l literals.now memory.now answer.now) ((ours_meet script.now book.now).else_all c_bounds none)

-- `stew_run` was lent a script, a book, a limit and three memories, and returned r; and the same script and book again, another limit and three other memories, and returned s. Each answer has room
module _
    (κs ιs : Lfts 5)
    (script script' book book' : Bor (List ℕ))
    (literals literals' memory memory' answer answer' : MutBor (List ℕ))
    (limit limit' r : ℕ)
    (again again' same same' : Bor (List ℕ))
    (bytes bytes' rows rows' told told' : MutBor (List ℕ))
    (loose loose' s : ℕ)
    (first : c.Learnt κs (script, (book, (limit, (literals, (memory, (answer, tt)))))) r (script', (book', (limit', (literals', (memory', (answer', tt)))))))
    (second : c.Learnt ιs (again, (same, (loose, (bytes, (rows, (told, tt)))))) s (again', (same', (loose', (bytes', (rows', (told', tt))))))) where
  pub stew_run_calls_repeat : again.now ≡ script.now → same.now ≡ book.now → NoStricter limit loose literals.now bytes.now memory.now rows.now → 28 ≤ length answer.now → 28 ≤ length told.now
      → RepeatsCCall (c_called r literals'.now memory'.now answer'.now) (c_called s bytes'.now rows'.now told'.now)
  stew_run_calls_repeat p q wide room room' =
      rw (
        first,
        second,
        p,
        q,
        c_call script.now book.now limit literals.now memory.now answer.now room,
        c_call script.now book.now loose bytes.now rows.now told.now room',
      )
      (two_c_runs script.now book.now limit loose literals.now bytes.now memory.now rows.now answer.now told.now wide)
