-- Characters of a body that are passed at once outside an attempt to close: plain ones, a line feed, a quote that closes nothing. Assumes nothing.
use Rattle.utf8.specs.Looks.{char_found}
use Prim.Native.Nat.{ℕ, ◌+◌, ◌-◌, ◌≤◌, ◌<◌}
use native.Mathlib.Omega.{arith}
use mathlib.Core.Bool.{false}
use mathlib.Core.List.{List, [], ◌∷◌}
use mathlib.Core.Path.{◌≡◌, refl, sym, ap, ◌∙◌}
use lib.ListN.{length, get_or}
use Rattle.position.specs.declared.Position.{Position}
use Rattle.position.specs.Place.{or_else, advanced, advanced_by, lined}
use Rattle.position.proofs.Moves.{first_by, advanced_by_none, advanced_by_more, first_by_none, first_by_more, first_by_some, first_stays}
use Rattle.utf8.specs.Table.{look_at}
use Rattle.utf8.specs.Encode.{encode}
use Rattle.utf8.proofs.Bits.{look_ascii}
use Rattle.utf8.proofs.Laws.{at_width}
use Rattle.utf8.proofs.Unicode.{size_width}
use Rattle.chars.specs.Cursors.{cursor}
use Rattle.chars.specs.Scan.{run_at}
use Rattle.chars.specs.Stretch.{StretchOf, Other}
use Rattle.chars.proofs.Cursors.{ate}
use Rattle.chars.proofs.Stretches as stretches
use Rattle.chars.proofs.Stretches.{is_other, stretched, stretch_low}
use Rattle.literal.specs.Trace.{Trace, added, tested, yields, passes}
use Rattle.literal.specs.Cut.{cut}
use Rattle.literal.specs.declared.Refusal.{Refusal}
use Rattle.literal.specs.Scans.{Scanned}
use Rattle.literal.proofs.Limits.{fewer}
use Rattle.literal.proofs.Within.{adds_within}
use Rattle.literal.specs.Answers.{too_long}
use Rattle.raw.specs.Raw.{as_source, hashes_of, BodyState, body_state, held_back, placed, body_turn, body_rule}
use Rattle.raw.specs.Step.{Adds, Failing, Hashes, LostAt, again, ended, BodyPasses}
use Rattle.raw.specs.declared.scan.Lost.{Lost}
use Rattle.raw.specs.declared.scan.Stand.{Stand}
use Rattle.raw.proofs.scan.Turns.{quote_adds, line_adds, failed_adds}
use Rattle.raw.proofs.scan.Loops.{goes_on}
use Rattle.raw.proofs.scan.Attempts.{attempt, attempted}

-- neither a quote nor a line feed
abbrev pub Plain : ℕ → Type 0
Plain c = Other 0x22 0x0A 0x0A 0x0A 0x0A c

-- a character of one byte
pub one_byte : (t : List ℕ) (at : ℕ) {c : ℕ} → at < length t → get_or t at 0 ≡ c → c < 0x80 → look_at t at ≡ char_found c 1
one_byte t at h e l = sym (look_ascii t at h 1 (rw e l) refl) ∙ ap (λ (x : ℕ). char_found x 1) e

-- a quote is one byte long
pub quote_found : (t : List ℕ) (at : ℕ) {c w : ℕ} → look_at t at ≡ char_found c w → c ≡ 0x22 → look_at t at ≡ char_found 0x22 1
unfolding encode
quote_found t at {c} {w} e q =
    let n : w ≡ 1 = sym (size_width t at e) ∙ ap (λ (x : ℕ). length (encode x)) q in
    e ∙ rw (q, n) refl

-- what a quote is passed with ends within the text
pub lost_within : {t : List ℕ} {hashes at : ℕ} {x : Lost} → LostAt t hashes at x → at + x.width ≤ length t + hashes + 1
lost_within {t} {hashes} {at} (again e) = let h = (at_width t at e).1 in omega (arith, h)
lost_within (ended n) = let h = n.fits in omega (arith, h)

-- and is a byte at least
pub lost_some : {t : List ℕ} {hashes at : ℕ} {x : Lost} → LostAt t hashes at x → 0 < x.width
lost_some (again e) = omega arith
lost_some (ended n) = omega arith

module _ (t : List ℕ) (k limit room most : ℕ) (s : Stand) (g : s.n + most ≤ room) (o : 0 < most → passes limit (s.n + most) ≡ false) where
  abbrev from : ℕ
  from = s.here.at

  -- behind so many characters
  abbrev after : ℕ → BodyState
  after i = body_state 0 (advanced_by i s.here.place) (first_by i s.first s.here.place)

  module _ (start : Position) (full : Refusal) where
    abbrev view : ℕ → Trace → Scanned
    view b r = cut full limit room (s.n + (b - from)) r

    one_passed : (i b c w : ℕ) → from ≤ b → b + w ≤ from + most → look_at t b ≡ char_found c w → Plain c → stretches.Plain (body_rule as_source start k) t after view i b w
    unfolding body_turn held_back placed yields
    one_passed i b c w l h e y =
        let n = is_other 0x22 0x0A 0x0A 0x0A 0x0A c y in
        let z : b + w - from ≡ b - from + w = omega arith in
        let p = advanced (advanced_by i s.here.place) in
        stretches.plain_turn (body_rule as_source start k) t after view {n = added (encode c) ∷ tested (too_long start (cursor (b + w) p) (hashes_of k)) ∷ []} e
        (rw (n.0, n.1, advanced_by_more i s.here.place, ← first_by_more s.first s.here.place i))
        (λ r. rw z (adds_within full limit room s.n most g o (b - from) w (at_width t b e).0 (omega arith) (encode c) (size_width t b e) _ r))

    all_passed : {i b : ℕ} → StretchOf t Plain from i b → b ≤ from + most
        → cut full limit room s.n (run_at (body_rule as_source start k) t from (body_state 0 s.here.place s.first))
        ≡ cut full limit room (s.n + (b - from)) (run_at (body_rule as_source start k) t b (after i))
    all_passed {i} {b} p l =
        let z : s.n ≡ s.n + (from - from) = omega arith in
        ap (λ (m : ℕ). cut full limit room m (run_at (body_rule as_source start k) t from (body_state 0 s.here.place s.first))) z
        ∙ ap (λ (x : BodyState). view from (run_at (body_rule as_source start k) t from x)) (rw (advanced_by_none s.here.place, first_by_none s.first s.here.place))
        ∙ stretched (body_rule as_source start k) t after view Plain from (from + most) one_passed p l

  pub passes_some : {i b m : ℕ} {p q : Position} → StretchOf t Plain from i b → b ≤ from + most → (i ≡ 0 → ⊥)
      → p ≡ advanced_by i s.here.place → q ≡ or_else s.first (advanced s.here.place) → m ≡ s.n + (b - from)
      → BodyPasses t k limit room 0 s (record { here = cursor b p; first = q; n = m })
  passes_some {i} {b} x l some e f c =
      let h = stretch_low x in
      record {
        low = omega (arith, h);
        counts = c;
        fits = omega (arith, h, l, g, c);
        same = λ start full. rw (e, f, c, ← first_by_some s.first s.here.place i some) (all_passed start full x l);
      }

  -- a turn in the state where it stands, behind so many bytes
  abbrev before : BodyState
  before = body_state 0 s.here.place s.first

  abbrev within : (m : ℕ) → m ≤ s.n + most → 0 < most → passes limit m ≡ false
  within m l some = fewer limit m (s.n + most) l (o some)

  -- a line feed
  pub passes_line : look_at t from ≡ char_found 0x0A 1 → 0 < most → {m : ℕ} {p q : Position} → p ≡ lined (advanced s.here.place) → q ≡ or_else s.first p → m ≡ s.n + 1
      → BodyPasses t k limit room 0 s (record { here = cursor (from + 1) p; first = q; n = m })
  passes_line e some {m} x y z =
      record {
        low = omega arith;
        counts = omega (arith, z);
        fits = omega (arith, z, g, some);
        same = λ start full. rw (y, x) (goes_on as_source start t k from before full limit room s.n
            (line_adds as_source t k from before (ate t s.here e) (λ q. omega (arith, q)) (omega arith) (omega arith) refl) (omega (arith, g)) z (omega (arith, z, g, some)) (within m (omega (arith, z, some)) some));
      }

  -- a quote and j hashes, too few to close
  module _ (one : look_at t from ≡ char_found 0x22 1) {j : ℕ} (h : Hashes t (from + 1) j) (few : j < k) where
    abbrev tried : BodyState
    tried = attempt j s.here.place s.first

    abbrev there : ℕ
    there = from + 1 + j

    abbrev lasts : 0 < most → (start : Position) (full : Refusal)
        → cut full limit room s.n (run_at (body_rule as_source start k) t from before)
        ≡ cut full limit room s.n (run_at (body_rule as_source start k) t there tried)
    lasts some start full = attempted t k from s.here.place s.first start full limit room s.n (omega (arith, g)) (within s.n (omega arith) some) one h few

    -- and a character of w bytes that ends the attempt
    passes_ended : {c w : ℕ} → look_at t there ≡ char_found c w → Failing c → {m : ℕ} {p q : Position} → j + w < most
        → p ≡ advanced_by (j + 2) s.here.place → q ≡ or_else s.first (advanced s.here.place) → m ≡ s.n + (j + w + 1)
        → BodyPasses t k limit room 0 s (record { here = cursor (there + w) p; first = q; n = m })
    passes_ended {c} {w} two n {m} l x f z =
        let on = advanced tried.place in
        let y : j + 2 ≡ j + 1 + 1 = omega arith in
        let kept : Adds as_source t k there tried (j + 1 + w) (there + w) (body_state 0 on (or_else tried.first on)) =
        failed_adds t k there tried (ate t (cursor there tried.place) two) n.0 (omega arith) n.1 (omega arith) in
        record {
          low = omega arith;
          counts = omega (arith, z);
          fits = omega (arith, z, g, l);
          same = λ start full. rw (f, x, y, advanced_by_more (j + 1) s.here.place, ← first_stays s.first s.here.place on)
              (lasts (omega (arith, l)) start full
              ∙ goes_on as_source start t k there tried full limit room s.n kept (omega (arith, g)) (omega (arith, z)) (omega (arith, z, g, l)) (within m (omega (arith, z, l)) (omega (arith, l))));
        }

    -- before another quote the attempt is begun anew
    abbrev behind : BodyState
    behind = body_state 0 tried.place tried.first

    passes_again : look_at t there ≡ char_found 0x22 1 → {m : ℕ} {p q : Position} → j < most
        → p ≡ advanced_by (j + 1) s.here.place → q ≡ or_else s.first (advanced s.here.place) → m ≡ s.n + (j + 1)
        → BodyPasses t k limit room 0 s (record { here = cursor there p; first = q; n = m })
    passes_again two {m} l x f z =
        let next = ate t (cursor there tried.place) two in
        let room-left : m ≤ room = omega (arith, z, g, l) in
        let below = within m (omega (arith, z, l)) (omega (arith, l)) in
        record {
          low = omega arith;
          counts = omega (arith, z);
          fits = room-left;
          same = λ start full. rw (f, x)
              (lasts (omega (arith, l)) start full
              ∙ goes_on as_source start t k there tried full limit room s.n (quote_adds as_source t k there tried next refl) (omega (arith, g)) z room-left below
              ∙ sym (goes_on as_source start t k there behind full limit room m (quote_adds as_source t k there behind next refl) room-left (omega arith) room-left below));
        }

    -- by what stands behind them
    pub passes_lost : {x : Lost} → LostAt t j there x → x.width ≤ most
        → {m : ℕ} {p q : Position} → p ≡ advanced_by x.columns s.here.place → q ≡ or_else s.first (advanced s.here.place) → m ≡ s.n + x.width
        → BodyPasses t k limit room 0 s (record { here = cursor (from + x.width) p; first = q; n = m })
    passes_lost (again two) l e f z =
        let y : there ≡ from + (j + 1) = omega arith in
        rw (← y) (passes_again two (omega (arith, l)) e f z)
    passes_lost (ended {w} two) l e f z =
        let y : there + w ≡ from + (j + w + 1) = omega arith in
        rw (← y) (passes_ended two.found two.is (omega (arith, l)) e f z)
