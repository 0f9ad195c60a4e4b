-- A raw literal in a text: its opening, its body, which nothing in it closes, and its closing hashes. Assumes nothing.
use Rattle.raw.specs.Answer.{opened_as}
use Rattle.chars.specs.Takes.{char_taken}
use Prim.Native.Nat.{ℕ, zero, suc, ◌+◌, ◌-◌, ◌≤◌, ◌<◌}
use native.Mathlib.Omega.{arith}
use mathlib.Core.Bool.{Bool, true, false}
use mathlib.Core.List.{List, [], ◌∷◌, ◌++◌, append_assoc}
use mathlib.Core.Logic.{⊎_elim}
use mathlib.Core.Path.{◌≡◌, refl, sym, ap, subst, ◌∙◌}
use lib.Dec.{eqb, ltb}
use lib.ListN.{length, drop, replicate, length-append}
use lib.Seq.{drop-drop, drop-append_seam}
use borrow.Author.Tests.{eqb-true, eqb-false, lt-ltb, le-ltb}
use Rattle.basis.proofs.Bounds.{split}
use Rattle.basis.proofs.Cases.{both_left, both_right, both_no}
use Rattle.position.specs.declared.Position.{Position}
use Rattle.position.specs.Place.{is_none, on_line, or_else, advanced, lined}
use Rattle.position.proofs.Moves.{advanced_on, on_some}
use Rattle.utf8.specs.Table.{look, look_at}
use Rattle.utf8.specs.Encode.{is_scalar, encode, encode_all, all_scalar}
use Rattle.utf8.proofs.Encodes.{scalar_low}
use Rattle.utf8.proofs.Finds.{look_encode}
use Rattle.chars.specs.Cursors.{cursor, eat_next_of}
use Rattle.chars.specs.Scan.{run_at}
use Rattle.chars.proofs.Cursors.{ate}
use Rattle.chars.proofs.Scans.{move_over}
use Rattle.literal.specs.Trace.{Trace, bytes, final, good}
use Rattle.literal.specs.declared.End.{End}
use Rattle.literal.specs.Answers.{nothing}
use Rattle.classes.specs.Marks.{lf}
use Rattle.raw.proofs.open.Openings.{counting, hash_on, quote_on}
use Rattle.raw.specs.Raw.{as_source, raw_end, BodyState, body_state, body_rule}
use Rattle.raw.specs.Step.{Adds}
use Rattle.raw.proofs.scan.Loops.{went_on}
use Rattle.raw.proofs.scan.Turns.{quote_adds, hash_closes, hash_adds, line_adds, plain_adds, failed_adds}
use Rattle.raw_writer.specs.Writer.{hashes_ahead, most_after_quote}
use Rattle.classes.specs.Marks.{quote, hash}
use Rattle.raw_writer.proofs.Hashes.{byte_cases, reach}
use Rattle.promises.specs.LiteralPlaces.{columns, attempts, behind_char, behind_all, behind_first}
use Rattle.promises.proofs.Counts.{quote_bytes, hash_bytes, other_most}
use Rattle.promises.proofs.Places.{stays, set_once, is_set, behind_line, behind_other, behind_attempt, behind_on}

-- ---- the text at an offset
module _ (t : List ℕ) (at : ℕ) where
  -- behind some bytes stand those that followed them
  pub further : (bs l : List ℕ) → drop at t ≡ bs ++ l → drop (at + length bs) t ≡ l
  further bs l e = sym (drop-drop (length bs) at t) ∙ ap (drop (length bs)) e ∙ drop-append_seam bs l

  one_further : (b : ℕ) (l : List ℕ) → drop at t ≡ b ∷ l → drop (at + 1) t ≡ l
  one_further b l e = further (b ∷ []) l e

  -- the character whose encoding stands there is taken
  module _ (p : Position) where
    eats : (c : ℕ) (l : List ℕ) → is_scalar c ≡ true → drop at t ≡ encode c ++ l → eat_next_of t (cursor at p) ≡ char_taken c (cursor (at + length (encode c)) (advanced p))
    unfolding look_at
    eats c l s e = ate t (cursor at p) (ap look e ∙ look_encode c l s)

    eats_quote : (l : List ℕ) → drop at t ≡ quote ∷ l → eat_next_of t (cursor at p) ≡ char_taken quote (cursor (at + 1) (advanced p))
    eats_quote l e = rw quote_bytes at (eats quote l (scalar_low quote (omega arith)) (rw quote_bytes e))

    eats_hash : (l : List ℕ) → drop at t ≡ hash ∷ l → eat_next_of t (cursor at p) ≡ char_taken hash (cursor (at + 1) (advanced p))
    eats_hash l e = rw hash_bytes at (eats hash l (scalar_low hash (omega arith)) (rw hash_bytes e))

-- ---- the opening: m hashes more and a quote
pub opens : (t : List ℕ) (start : Position) (m k at : ℕ) (p : Position) (l : List ℕ) → drop at t ≡ replicate m hash ++ quote ∷ l
    → counting start t k (cursor at p) ≡ opened_as (k + m) (cursor (at + suc m) (columns (suc m) p))
unfolding columns
opens t start zero k at p l e =
    let z : k + 0 ≡ k = omega arith in
    rw z (quote_on start t k (cursor at p) (eats_quote t at p l e) refl)
opens t start (suc m) k at p l e =
    let z : k + suc m ≡ k + 1 + m = omega arith in
    let y : at + suc (suc m) ≡ at + 1 + suc m = omega arith in
    rw (z, y) (hash_on start t k (cursor at p) (eats_hash t at p (replicate m hash ++ quote ∷ l) e) refl
    ∙ opens t start m (k + 1) (at + 1) (advanced p) l (one_further t at hash (replicate m hash ++ quote ∷ l) e))

-- ---- a reading of the body
-- it adds so many bytes and is accepted with an end
pub record Reads (r : Trace) (n : ℕ) (e : End) : Type 0 where
  pub size : length (bytes r) ≡ n
  pub ends : final r ≡ good e

-- how long a run that is held becomes, outside an attempt and in one
reach_none : (held : ℕ) (cs : List ℕ) → held ≤ 0 → reach held cs ≡ 0
unfolding reach
reach_none zero cs h = refl
reach_none (suc n) cs h = absurd (omega arith)

reach_some : (held : ℕ) (cs : List ℕ) → 0 < held → reach held cs ≡ held + hashes_ahead cs
unfolding reach
reach_some zero cs h = absurd (omega arith)
reach_some (suc n) cs h = refl

module _ (t : List ℕ) (start : Position) (k : ℕ) where
  abbrev rest : ℕ → BodyState → Trace
  rest at s = run_at (body_rule as_source start k) t at s

  -- a step that adds n bytes, before the rest
  step_on : {at : ℕ} {s : BodyState} {n next : ℕ} {r : BodyState} {m : ℕ} {e : End} → Adds as_source t k at s n next r → Reads (rest next r) m e → Reads (rest at s) (n + m) e
  unfolding bytes final
  step_on {at} {s} {n} {next} {r} {m} {e} a i =
      let w = went_on as_source start t k at s a in
      record { size = rw w (length-append a.bytes (bytes (rest next r)) ∙ rw (a.count, i.size)); ends = rw w i.ends }

  -- the closing hashes: one is the k-th of the attempt, j hashes on
  closes : (j at : ℕ) (s : BodyState) (l : List ℕ) → 0 < s.held → s.held + j ≡ k → is_none s.first ≡ false → drop at t ≡ replicate (suc j) hash ++ l
      → Reads (rest at s) 0 (raw_end (cursor (at + suc j) (columns (suc j) s.place)) s.first nothing)
  unfolding columns bytes final
  closes zero at s l z n f e =
      let o = move_over (body_rule as_source start k) t at s (hash_closes as_source t k at s (eats_hash t at s.place l e) refl z (omega arith) start) in
      record { size = rw o; ends = rw o }
  closes (suc j) at s l z n f e =
      let a = hash_adds as_source t k at s (eats_hash t at s.place (replicate (suc j) hash ++ l) e) refl z (λ q. omega arith) in
      let i = closes j (at + 1) (body_state (s.held + 1) (advanced s.place) s.first) l (omega arith) (omega arith) f (one_further t at hash (replicate (suc j) hash ++ l) e) in
      let y : at + suc (suc j) ≡ at + 1 + suc j = omega arith in
      rw y (step_on (rw (stays s.first (advanced s.place) f) at a) i)

  -- a character that does not close, in front of a text that does not: the step adds bytes and holds some back, as many as there were with it, and no run ahead closes
  record Goes (at : ℕ) (s : BodyState) (c : ℕ) (cs : List ℕ) : Type 0 where
    added : ℕ
    held : ℕ
    adds : Adds as_source t k at s added (at + length (encode c)) (body_state held (behind_char (ltb 0 s.held) c s.place) (or_else s.first (behind_char (ltb 0 s.held) c s.place)))
    balance : added + held ≡ s.held + length (encode c)
    attempt : attempts (ltb 0 s.held) c ≡ ltb 0 held
    reaches : reach held cs ≤ k
    mosts : most_after_quote cs < k

  abbrev Taken : ℕ → BodyState → List ℕ → ℕ → Type 0
  Taken at s cs c =
      eat_next_of t (cursor at s.place) ≡ char_taken c (cursor (at + length (encode c)) (advanced s.place))
      → reach s.held (encode c ++ cs) ≤ k → most_after_quote (encode c ++ cs) < k → Goes at s c cs

  module _ (at : ℕ) (s : BodyState) (cs : List ℕ) where
    at_quote : Taken at s cs quote
    unfolding behind_char most_after_quote reach
    at_quote e r m =
        let w : length (encode quote) ≡ 1 = rw quote_bytes refl in
        let m' : most_after_quote (quote ∷ cs) < k = rw quote_bytes at m in
        record {
          added = s.held;
          held = 1;
          adds = quote_adds as_source t k at s e refl;
          balance = omega arith;
          attempt = refl;
          reaches = omega arith;
          mosts = omega arith;
        }

    -- a hash outside an attempt is a character like any other; in one it is held back, and not the k-th
    at_hash : Taken at s cs hash
    unfolding behind_char most_after_quote hashes_ahead
    at_hash e r m =
        let w : length (encode hash) ≡ 1 = rw hash_bytes refl in
        let m' : most_after_quote (hash ∷ cs) < k = rw hash_bytes at m in
        let r' : reach s.held (hash ∷ cs) ≤ k = rw hash_bytes at r in
        ⊎_elim
        (λ z. record {
          added = at + length (encode hash) - at;
          held = 0;
          adds = plain_adds as_source t k at s e (λ q. omega arith) (omega arith) refl (λ q. omega arith);
          balance = omega arith;
          attempt = rw (le-ltb 0 s.held (omega arith));
          reaches = rw (reach_none 0 cs (omega arith)) (omega arith);
          mosts = m';
        })
        (λ z. let u : s.held + suc (hashes_ahead cs) ≤ k = rw (reach_some s.held (hash ∷ cs) z) at r' in
        record {
          added = 0;
          held = s.held + 1;
          adds = hash_adds as_source t k at s e refl z (λ q. omega arith);
          balance = omega arith;
          attempt = rw (lt-ltb 0 s.held z, lt-ltb 0 (s.held + 1) (omega arith));
          reaches = rw (reach_some (s.held + 1) cs (omega arith)) (omega arith);
          mosts = m';
        })
        (split s.held 1)

    -- any other character is kept, behind what was held back
    module _ (c : ℕ) (q : eqb c quote ≡ false) (h : eqb c hash ≡ false) where
      kept : (p : Position) → p ≡ behind_char (ltb 0 s.held) c s.place → (n : ℕ) → n ≡ s.held + length (encode c)
          → Adds as_source t k at s n (at + length (encode c)) (body_state 0 p (or_else s.first p)) → most_after_quote (encode c ++ cs) < k → Goes at s c cs
      kept p z n y a m = record {
        added = n;
        held = 0;
        adds = subst (λ (x : Position). Adds as_source t k at s n (at + length (encode c)) (body_state 0 x (or_else s.first x))) z a;
        balance = omega arith;
        attempt = rw (q, h, both_no (ltb 0 s.held));
        reaches = rw (reach_none 0 cs (omega arith)) (omega arith);
        mosts = rw (other_most c q h cs) at m;
      }

      at_other : Taken at s cs c
      at_other e r m =
          let w : at + length (encode c) - at ≡ length (encode c) = omega arith in
          ⊎_elim
          (λ z. line (eqb c lf) refl (omega arith))
          (λ z. kept (advanced s.place) (rw (lt-ltb 0 s.held z) (sym (behind_attempt c s.place))) (s.held + length (encode c)) refl
          (failed_adds t k at s e (eqb-false c quote q) z (eqb-false c hash h) (rw w refl)) m)
          (split s.held 1)
        where
          line : (b : Bool) → eqb c lf ≡ b → s.held ≤ 0 → Goes at s c cs
          line true y z =
              kept (lined (advanced s.place)) (rw (le-ltb 0 s.held z) (sym (behind_line c s.place (eqb-true c lf y)))) (at + length (encode c) - at) (omega arith)
              (line_adds as_source t k at s e (eqb-false c quote q) z refl (eqb-true c lf y)) m
          line false y z =
              kept (advanced s.place) (sym (behind_other c s.place (ltb 0 s.held) (eqb-false c lf y))) (at + length (encode c) - at) (omega arith)
              (plain_adds as_source t k at s e (eqb-false c quote q) z refl (eqb-false c lf y)) m

  goes : (at : ℕ) (s : BodyState) (cs : List ℕ) (c : ℕ) → Taken at s cs c
  goes at s cs c = byte_cases (Taken at s cs) c (at_quote at s cs) (at_hash at s cs) (at_other at s cs c)

  -- what is to be shown of a body of characters, in a state at an offset
  abbrev Read : List ℕ → ℕ → BodyState → Type 0
  Read cs at s =
      Reads (rest at s) (s.held + length (encode_all cs))
      (raw_end (cursor (at + length (encode_all cs) + suc k) (columns (suc k) (behind_all (ltb 0 s.held) cs s.place)))
      (or_else s.first (behind_first (ltb 0 s.held) cs s.place)) nothing)

  -- it ends
  closed : (at : ℕ) (s : BodyState) (l : List ℕ) → 0 < k → on_line s.place ≡ true → drop at t ≡ quote ∷ replicate k hash ++ l → Read [] at s
  unfolding encode_all columns behind_all behind_first
  closed at s l m o e =
      let p = advanced s.place in
      let u = on_some p (advanced_on s.place ∙ o) in
      let j : suc (k - 1) ≡ k = omega arith in
      let d : drop (at + 1) t ≡ replicate (suc (k - 1)) hash ++ l = one_further t at quote (replicate k hash ++ l) e ∙ ap (λ (n : ℕ). replicate n hash ++ l) (sym j) in
      let i = closes (k - 1) (at + 1) (body_state 1 p (or_else s.first p)) l (omega arith) (omega arith) (is_set s.first p u) d in
      let n : at + 0 + suc k ≡ at + 1 + k = omega arith in
      rw n (step_on (quote_adds as_source t k at s (eats_quote t at s.place (replicate k hash ++ l) e) refl) (rw j at i))

  -- a character goes before it
  one_more : (at : ℕ) (s : BodyState) (c : ℕ) (cs : List ℕ) → on_line s.place ≡ true → (g : Goes at s c (encode_all cs))
      → Read cs (at + length (encode c)) (body_state g.held (behind_char (ltb 0 s.held) c s.place) (or_else s.first (behind_char (ltb 0 s.held) c s.place))) → Read (c ∷ cs) at s
  unfolding encode_all behind_all behind_first
  one_more at s c cs o g i =
      let p = behind_char (ltb 0 s.held) c s.place in
      let b = length-append (encode c) (encode_all cs) in
      let n : s.held + length (encode c ++ encode_all cs) ≡ g.added + (g.held + length (encode_all cs)) = omega (arith, g.balance) in
      let z : at + length (encode c ++ encode_all cs) + suc k ≡ at + length (encode c) + length (encode_all cs) + suc k = omega arith in
      rw (n, z, g.attempt, ← set_once s.first p (behind_first (ltb 0 g.held) cs p) (on_some p (behind_on c s.place (ltb 0 s.held) o))) (step_on g.adds i)

  -- a body that nothing in it closes, and the quote and k hashes that do
  pub reads : (cs : List ℕ) (at : ℕ) (s : BodyState) (l : List ℕ) → all_scalar cs ≡ true → drop at t ≡ encode_all cs ++ (quote ∷ replicate k hash ++ l)
      → on_line s.place ≡ true → reach s.held (encode_all cs) ≤ k → most_after_quote (encode_all cs) < k → Read cs at s
  unfolding encode_all all_scalar
  reads [] at s l y e o r m = closed at s l (omega (arith, m)) o e
  reads (c ∷ cs) at s l y e o r m =
      let tail : List ℕ = encode_all cs ++ (quote ∷ replicate k hash ++ l) in
      let a : drop at t ≡ encode c ++ tail = e ∙ append_assoc (encode c) (encode_all cs) (quote ∷ replicate k hash ++ l) in
      let g = goes at s (encode_all cs) c (eats t at s.place c tail (both_left (is_scalar c) (all_scalar cs) y) a) r m in
      let p = behind_char (ltb 0 s.held) c s.place in
      one_more at s c cs o g
      (reads cs (at + length (encode c)) (body_state g.held p (or_else s.first p)) l (both_right (is_scalar c) (all_scalar cs) y) (further t at (encode c) tail a)
      (behind_on c s.place (ltb 0 s.held) o) g.reaches g.mosts)
