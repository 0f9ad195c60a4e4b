-- The theorem ShutsOutRuns of specs/Limits.antt, by two literals. Assumes nothing.
use Rattle.entry.specs.Kinds as Kind
use Rattle.lex_error.specs.Numbers.{no_refusal}
use Rattle.std.specs.Prelude.{Err}
use Prim.Native.Nat.{ℕ}
use native.Mathlib.Omega.{arith}
use mathlib.Core.List.{List, [], ◌∷◌, ◌++◌}
use mathlib.Core.Logic.{inr}
use mathlib.Core.Path.{◌≡◌, refl, sym, ap, ◌∙◌}
use lib.ListN.{length, get_or}
use borrow.Author.Tests.{eq-eqb}
use Rattle.basis.specs.Words.{word}
use Rattle.position.specs.Place.{place}
use Rattle.fault.specs.Faults.{no_token_room}
use Rattle.utf8.specs.Table.{look, well_from, well}
use Rattle.chars.specs.Cursors.{cursor}
use Rattle.book.specs.Book as Book
use Rattle.book.specs.Contents as Contents
use Rattle.reading.specs.Reading.{token, Left, entries, literal_bytes}
use Rattle.reading.specs.CutRun.{bounds, cut_run}
use Rattle.reading.specs.declared.Bounds.{Bounds}
use Rattle.script.specs.Script.{script_of}
use Rattle.find.specs.Find.{opens_string}
use Rattle.script.specs.Rules.{document01}
use Rattle.script.specs.Steps.{literal_trace}
use Rattle.script.proofs.Examples.{worked}
use Rattle.door.specs.Door.{text_of}
use Rattle.door.specs.RunDoor.{refuses_of}
use Rattle.run.specs.Run.{run_reading}
use Rattle.run.proofs.Runs.{run_read}
use Rattle.promises.specs.Limits.{Runs, Meets, NeverStops, ForgetsBytes, OneLiteral, FakesTheRest, Miscounts, ShutsOutRuns}
use Rattle.promises.proofs.Limits.{no_other}

abbrev empty : List ℕ
empty = 0 ∷ 0 ∷ []

-- a literal, and two that may stand behind it
abbrev a : List ℕ
a = word "\"a\""

abbrev b : List ℕ
b = word " \"b\""

abbrev c : List ℕ
c = word " \"c\""

-- no limit, room for two literal bytes, and so many entries
abbrev room : ℕ → Bounds
room n = bounds 0 2 n

-- the door lets a script in
abbrev Enters : List ℕ → Type 0
Enters script = refuses_of script empty ≡ no_refusal

enters : Enters a × Enters (a ++ b) × Enters (a ++ c)
unfolding word text_of refuses_of look well_from well Book.few Book.runs_on Book.all_fit Book.rising Book.good Book.check_of Contents.u16_at Contents.word_count Contents.words_from Contents.words Contents.enough
enters = (refl, refl, refl)

one : OneLiteral a empty
unfolding run_reading
one = record {
  token = token Kind.string (cursor 0 (place 1 1)) (cursor 3 (place 1 3));
  trace = literal_trace document01 a opens_string (cursor 1 (place 1 1));
  end = place 1 3;
  is_read = rw enters.0 worked.one_literal;
}

module _ (runs : Runs) (demand : Meets runs) where
  -- what such runs leave is what ours leave
  leaves : (script : List ℕ) (x : Bounds) → Enters script → runs script empty x ≡ cut_run x 0 0 (script_of document01 script empty)
  leaves script x e = no_other script empty (runs script empty) (demand script empty) x ∙ run_read document01 x script empty e

  both_b : literal_bytes (runs (a ++ b) empty (room 2)).tokens ≡ word "ab"
  unfolding word
  both_b = ap (λ (l : Left). literal_bytes l.tokens) (leaves (a ++ b) (room 2) enters.1) ∙ worked.two_literals.1

  both_c : literal_bytes (runs (a ++ c) empty (room 2)).tokens ≡ word "ac"
  unfolding word
  both_c = ap (λ (l : Left). literal_bytes l.tokens) (leaves (a ++ c) (room 2) enters.2) ∙ worked.two_others.1

  -- one entry for two literals
  first_alone : runs (a ++ b) empty (room 1) ≡ cut_run (room 1) 0 0 (script_of document01 (a ++ b) empty)
  first_alone = leaves (a ++ b) (room 1) enters.1

  is_stopped : (runs (a ++ b) empty (room 1)).ending ≡ Err (no_token_room (place 1 5))
  unfolding word
  is_stopped = ap (λ (l : Left). l.ending) first_alone ∙ worked.no_entry_left.2

  never_stops : NeverStops runs → ⊥
  never_stops h = (h (a ++ b) empty (room 1) (no_token_room (place 1 5)) is_stopped).2 refl

  forgets_bytes : ForgetsBytes runs → ⊥
  unfolding word
  forgets_bytes h =
      let z = sym (h (a ++ b) empty (room 1) (no_token_room (place 1 5)) is_stopped (inr (inr refl))) ∙ ap (λ (l : Left). literal_bytes l.tokens) first_alone ∙ worked.no_entry_left.1 in
      let n : ◌≡◌ {A = ℕ} 0 1 = ap (λ (l : List ℕ). length l) z in omega arith

  fakes_the_rest : (fake : List ℕ → ℕ → List ℕ → Bounds → Left) → FakesTheRest runs fake → ⊥
  unfolding word
  fakes_the_rest fake h =
      let same : runs (a ++ b) empty (room 2) ≡ runs (a ++ c) empty (room 2) = h a b empty (room 2) one ∙ sym (h a c empty (room 2) one) in
      let z = sym both_b ∙ ap (λ (l : Left). literal_bytes l.tokens) same ∙ both_c in
      let n : ◌≡◌ {A = ℕ} 0x62 0x63 = ap (λ (l : List ℕ). get_or l 1 0) z in omega arith

  miscounts : Miscounts runs → ⊥
  miscounts h = h.off (ap (λ (l : Left). length (entries l.tokens)) (no_other h.script h.book (runs h.script h.book) (demand h.script h.book) h.bounds))

pub shuts_out_runs : ShutsOutRuns
shuts_out_runs runs demand = (never_stops runs demand, forgets_bytes runs demand, fakes_the_rest runs demand, miscounts runs demand)
