-- Where the measuring loop stands: what a limit and a room leave of the reading from here, as many bytes into it as the body has so far, is the whole answer. One law for each way through a turn. Assumes nothing.
use Rattle.chars.specs.Takes.{char_taken}
use Rattle.std.specs.Prelude.{Err, None}
use Prim.Native.Nat.{ℕ, ◌+◌, ◌-◌, ◌≤◌, ◌<◌}
use native.Mathlib.Omega.{arith}
use mathlib.Core.Bool.{true, false}
use mathlib.Core.List.{List}
use mathlib.Core.Path.{◌≡◌, sym, ap, ◌∙◌}
use lib.ListN.{length}
use Rattle.position.specs.declared.Position.{Position}
use Rattle.position.specs.Place.{none, or_else}
use Rattle.chars.specs.Cursors.{eat_next_of}
use Rattle.chars.specs.Scan.{run_at}
use Rattle.chars.specs.declared.cursor.Cursor.{Cursor}
use Rattle.chars.proofs.Cursors.{ate_took}
use Rattle.chars.proofs.Cursors as cursors
use Rattle.literal.specs.Trace.{passes}
use Rattle.literal.specs.Cut.{cut}
use Rattle.literal.specs.Scans.{Scanned, accepted_as}
use Rattle.literal.specs.Answers.{nothing, too_long, full}
use Rattle.raw.specs.Raw.{as_source, hashes_of, raw_end, BodyState, body_state, body_rule, body_of}
use Rattle.raw.specs.Step.{held_behind, cursor_behind, BodyPasses}
use Rattle.raw.specs.declared.scan.Stand.{Stand}
use Rattle.raw.proofs.scan.Turns.{ends_open}
use Rattle.raw.proofs.scan.Steps.{Tells, tells, goes}
use Rattle.raw.proofs.scan.Loops as loops

module _ (t : List ℕ) (start from : Cursor) (k limit room : ℕ) where
  -- what the loop is to answer, and what is left of it n bytes into the body
  abbrev answer : Scanned
  answer = cut (full start) limit room 0 (body_of as_source t start.place k from)

  abbrev left : ℕ → ℕ → BodyState → Scanned
  left n at s = cut (full start) limit room n (run_at (body_rule as_source start.place k) t at s)

  -- the loop stands at a cursor, with so many bytes held back and n in the body
  pub record Stands (here : Cursor) (first : Position) (held n : ℕ) : Type 0 where
    pub fits : from.at + held ≤ here.at
    pub small : held ≤ k
    pub counts : n ≡ here.at - from.at - held
    pub has_room : n ≤ room
    pub rest : answer ≡ left n here.at (body_state held here.place first)

  -- before the first turn
  pub begins : {p : Position} → p ≡ none → Stands from p 0 0
  unfolding body_of
  begins e = record { fits = omega arith; small = omega arith; counts = omega arith; has_room = omega arith; rest = rw e }

  module _ {here : Cursor} {first : Position} {held n : ℕ} (s : Stands here first held n) where
    abbrev state : BodyState
    state = body_state held here.place first

    -- behind what was passed at once
    pub passed : {r : Stand} → BodyPasses t k limit room held (record { here = here; first = first; n = n }) r → Stands r.here r.first held r.n
    passed p = record {
      fits = omega (arith, s.fits, p.low);
      small = s.small;
      counts = omega (arith, s.fits, s.counts, p.low, p.counts);
      has_room = p.fits;
      rest = s.rest ∙ p.same start.place (full start);
    }

    -- the text ends
    pub runs_out : eat_next_of t here ≡ None → accepted_as (raw_end here first (hashes_of k)) n ≡ answer
    runs_out e = sym (s.rest ∙ loops.is_over as_source start.place t k here.at state (full start) limit room n (ends_open as_source t k here.at state e))

    module _ {c : ℕ} {next : Cursor} (e : eat_next_of t here ≡ char_taken c next) where
      further : (here.at < next.at) × (next.at ≤ length t)
      further = cursors.further t here.at _ (ate_took t here e)

      pub less : {there : Cursor} → there ≡ cursor_behind as_source c held next → length t - there.at < length t - here.at
      less p = rw p (omega (arith, further))

      pub held_low : held < next.at
      held_low = omega (arith, s.fits, further)

      -- with so many bytes held back behind a character
      module _ (one : 1 ≤ k) {h : ℕ} (q : h ≡ held_behind c held) where
        told : Tells as_source t k here.at state e q
        told = tells as_source t k here.at state e q one s.small

        within : from.at + h ≤ next.at
        within = omega (arith, told.fits, s.fits, further)

        pub is_behind : from.at ≤ next.at
        is_behind = omega (arith, within)

        pub is_read : h ≤ next.at - from.at
        is_read = omega (arith, within)

        pub closes : k < h → accepted_as (raw_end next first nothing) n ≡ answer
        closes l = sym (s.rest ∙ loops.is_over as_source start.place t k here.at state (full start) limit room n (told.shut l))

        -- the turn goes on, with a body of m bytes
        module _ {there : Cursor} {f : Position} (p : there ≡ cursor_behind as_source c held next) (o : f ≡ or_else first there.place) (l : h ≤ k) {m : ℕ} (w : m ≡ next.at - from.at - h) where
          is_at : there.at ≡ next.at
          is_at = ap (λ (x : Cursor). x.at) p

          grows : m ≡ n + (held + (next.at - here.at) - h)
          grows = omega (arith, told.fits, s.fits, s.counts, further)

          pub is_full : room < m → Err (full start) ≡ answer
          is_full g = sym (s.rest ∙ loops.no_room as_source start.place t k here.at state (full start) limit room n (goes as_source t k here.at state e q one s.small p o l) s.has_room grows g)

          module _ (g : m ≤ room) where
            pub is_too_long : passes limit m ≡ true → Err (too_long start.place there (hashes_of k)) ≡ answer
            is_too_long x =
                sym (s.rest ∙ loops.is_too_long as_source start.place t k here.at state (full start) limit room n (goes as_source t k here.at state e q one s.small p o l) s.has_room grows g x)

            pub goes_on : passes limit m ≡ false → Stands there f h m
            goes_on x = record {
              fits = omega (arith, is_at, within);
              small = l;
              counts = rw is_at w;
              has_room = g;
              rest = s.rest ∙ loops.goes_on as_source start.place t k here.at state (full start) limit room n (goes as_source t k here.at state e q one s.small p o l) s.has_room grows g x;
            }
