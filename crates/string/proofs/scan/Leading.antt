-- How a scan is led on: by nothing, by what is only taken and added, by a unit, by one thing and then another. Assumes nothing.
use Rattle.std.specs.Prelude.{None}
use Prim.Native.Nat.{ℕ, ◌+◌, ◌-◌, ◌≤◌, ◌<◌}
use native.Mathlib.Omega.{arith}
use mathlib.Core.Bool.{false}
use mathlib.Core.List.{List}
use mathlib.Core.Logic.{⊎_elim}
use mathlib.Core.Path.{◌≡◌, refl, sym, ap, ◌∙◌}
use lib.ListN.{length, take, drop}
use Rattle.basis.specs.Store.{stored}
use Rattle.basis.proofs.Bounds.{split}
use Rattle.basis.proofs.Stores.{length_stored}
use Rattle.position.specs.declared.Position.{Position}
use Rattle.position.specs.Place.{or_else, advanced}
use Rattle.utf8.specs.Encode.{encoded}
use Rattle.literal.specs.Trace.{passes}
use Rattle.string_turn.specs.Passing.{StringPasses}
use Rattle.string_turn.specs.Passing as passing
use Rattle.string_turn.proofs.take.Passing.{passes_low, passes_within}
use Rattle.string_turn.specs.Take.{scanning}
use Rattle.string_turn.specs.Answer.{Pending}
use Rattle.string_turn.specs.declared.take.Stood.{Stood}
use Rattle.string.specs.Standing.{ScanLeads, ScanLeadsAnywhere}
use Rattle.string.specs.Units.{clear_of, stand_of, Reads}
use Rattle.string.specs.declared.scan.Clear.{Clear}
use Rattle.string.specs.declared.scan.ScanStand.{ScanStand}
use Rattle.string.specs.declared.scan.Unit.{Unit}
use Rattle.string.proofs.scan.Measuring.{measured_more}
use Rattle.string.proofs.scan.Passing.{measured_passed}
use Rattle.string.proofs.scan.Writing.{written_more}
use Rattle.string.proofs.scan.Copying.{written_passed}

abbrev pub clear : ℕ → Position → Position → ℕ → ℕ → Clear
clear at p f k n = record { at = at; place = p; first = f; skip = k; n = n }

module _ (t : List ℕ) (q : ℕ) (start : Position) (limit room : ℕ) where
  pub stays : (from : ScanStand) (out : List ℕ) → from.n ≤ room → ScanLeads t q start limit room from out from out
  stays from out h = record { measured = λ c e i. i; written = λ c e old i. i; low = omega arith; high = λ l. absurd (omega arith); within = h; same = refl }

  pub leads_then : {a b c : ScanStand} {out mid now : List ℕ} → ScanLeads t q start limit room a out b mid → ScanLeads t q start limit room b mid c now → ScanLeads t q start limit room a out c now
  leads_then {a} {b} {c} x y =
      record {
        measured = λ k e i. y.measured k e (x.measured k e i);
        written = λ k e old i. y.written k e old (x.written k e old i);
        low = omega (arith, x.low, y.low);
        high = λ l. ⊎_elim (λ m. y.high m) (λ m. let g = x.high (omega (arith, m, l)) in omega (arith, g, m)) (split b.at c.at);
        within = y.within;
        same = y.same ∙ x.same;
      }

  -- a unit
  module _ (here : Clear) (u : Unit) (w : here.n ≤ room) (x : Reads t q start here u) (o : passes limit here.n ≡ false) {m : ℕ} (z : m ≡ length (encoded u.c)) (h : m ≤ room - here.n) where
    pub adds_on : {out now : List ℕ} → now ≡ stored out here.n (encoded u.c) → {p f : Position} → p ≡ advanced here.place → f ≡ or_else here.first p
        → ScanLeads t q start limit room (stand_of here) out (stand_of (clear (here.at + u.width) u.place f u.skip (here.n + m))) now
    adds_on {out} {now} v e i =
        let g = x limit o in
        rw (i, e) (record {
          measured = λ c k j. measured_more t c q limit room j (rw k g) refl z h;
          written = λ c k old j. written_more t q c old out here.at _ here.n j limit (rw k g) refl z v;
          low = omega (arith, g.low);
          high = λ l. g.high;
          within = omega (arith, w, h);
          same = rw v (length_stored out here.n (encoded u.c));
        })

  -- a state with no escape pending is its other parts
  as_it_stands : (from : ScanStand) → from.state.escape ≡ None → stand_of (clear_of from.at from.state from.n) ≡ from
  as_it_stands from e = ap (λ (x : Pending). record { at = from.at; state = scanning from.state.place from.state.first x from.state.skip; n = from.n }) (sym e)

  pub cleared_leads : (from : ScanStand) → from.state.escape ≡ None → {here to : Clear} {r : ScanStand} {out now : List ℕ} → here ≡ clear_of from.at from.state from.n → r ≡ stand_of to
      → ScanLeads t q start limit room (stand_of here) out (stand_of to) now → ScanLeads t q start limit room from out r now
  cleared_leads from e {here} {to} {r} {out} {now} h g x =
      let y : ScanLeads t q start limit room (stand_of (clear_of from.at from.state from.n)) out (stand_of to) now = rw h at x in
      let z : ScanLeads t q start limit room from out (stand_of to) now = rw (as_it_stands from e) at y in
      rw g z

-- what was passed, and copied
module _ (t : List ℕ) (q limit room : ℕ) {at n most : ℕ} {p f : Position} (h : n ≤ room) (g : n + most ≤ room) (o : 0 < most → passes limit (n + most) ≡ false) where
  pub passes_on : {r : Stood} → StringPasses t q (passing.stood at p f) r → r.at ≤ at + most → {out now : List ℕ} → now ≡ stored out n (take (r.at - at) (drop at t))
      → ScanLeadsAnywhere t q limit room (stand_of (clear at p f 0 n)) out (stand_of (clear r.at r.place r.first 0 (n + (r.at - at)))) now
  passes_on {r} x l {out} v start =
      record {
        measured = λ c k i. measured_passed t c q limit room i g o x l;
        written = λ c k old i. written_passed t q c old out (passing.stood at p f) n i x v;
        low = passes_low x;
        high = passes_within x;
        within = omega (arith, g, passes_low x, l);
        same = rw v (length_stored out n (take (r.at - at) (drop at t)));
      }
