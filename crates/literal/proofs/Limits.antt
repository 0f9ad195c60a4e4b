-- Demand 3 for one literal, over any reading. Assumes nothing.
use Rattle.std.specs.Prelude.{Err}
use Prim.Native.Nat.{ℕ, ◌+◌, ◌≤◌}
use native.Mathlib.Omega.{arith}
use native.Mathlib.Nat.{zero-add, add-zero}
use mathlib.Core.Bool.{Bool, true, false}
use mathlib.Core.List.{List, ◌++◌}
use mathlib.Core.Logic.{◌⊎◌, inl, inr, ⊎_elim}
use mathlib.Core.Path.{◌≡◌, refl, sym, ap, ◌∙◌}
use lib.Dec.{leb, ltb, eqb}
use lib.ListN.{length, length-append}
use borrow.Author.Tests.{le-ltb, ltb-false, eq-eqb, ne_eqb, le-leb, lt-leb, leb-true, leb-false}
use Rattle.basis.specs.Pick.{pick}
use Rattle.basis.proofs.Cases.{pick_cases}
use Rattle.position.specs.declared.Position.{Position}
use Rattle.fault.specs.Faults.{string_too_long, number, Own}
use Rattle.fault.specs.declared.Fault.{Fault}
use Rattle.literal.specs.Trace.{Trace, ends, fails, adds, checks, bytes, final, Outcome, good, bad, passes}
use Rattle.literal.specs.Cut.{cut, answer}
use Rattle.literal.specs.Told.{refusal_number}
use Rattle.literal.specs.Limits.{
  Looser,
  FairTrace,
  AcceptedWhole,
  UncutWithin,
  RecursWhole,
  Bound,
  string_limit,
  literal_room,
  token_room,
  Cuts,
  no_room,
  too_long,
  goes_on,
  is_tested,
  CutThere,
  UncutElse,
  CutAtTheFirst,
}
use Rattle.literal.specs.declared.End.{End}
use Rattle.literal.specs.declared.Refusal.{Refusal}
use Rattle.literal.specs.Scans.{Scanned, accepted_as}

pub not_accepted {ℓ} : {A : Type ℓ} {f : Refusal} {e : End} {n : ℕ} → Err f ≡ accepted_as e n → A
not_accepted h = absurd (let z : ◌≡◌ {A = ℕ} 0 1 = cc in omega arith)

-- the end and the length of an accepted scan
pub accepted_parts : {x e : End} {n m : ℕ} → accepted_as x n ≡ accepted_as e m → (x ≡ e) × (n ≡ m)
accepted_parts {x} {e} {n} {m} h = let p : ◌≡◌ {A = End × ℕ} (x, n) (e, m) = cc in (ap (λ (z : End × ℕ). z.0) p, ap (λ (z : End × ℕ). z.1) p)

-- ---- an accepted reading
pub accepted_from : (full : Refusal) (limit room n : ℕ) (t : Trace) (e : End) (m : ℕ) → n ≤ room → cut full limit room n t ≡ accepted_as e m
    → (m ≡ n + length (bytes t)) × (m ≤ room) × (final t ≡ good e)
unfolding cut bytes final
accepted_from full limit room n (ends x) e m l = λ h. let p = accepted_parts h in let q : m ≡ n = sym p.1 in (omega arith, omega arith, ap good p.0)
accepted_from full limit room n (fails f) e m l = λ h. not_accepted h
accepted_from full limit room n (adds bs t) e m l =
    pick_cases (λ (a : Scanned). a ≡ accepted_as e m → (m ≡ n + length (bs ++ bytes t)) × (m ≤ room) × (final t ≡ good e)) (leb (n + length bs) room) _ _
    (λ q h. let r = accepted_from full limit room (n + length bs) t e m (leb-true _ _ q) h in (omega (arith, length-append bs (bytes t)), r.1, r.2))
    (λ q h. not_accepted h)
accepted_from full limit room n (checks f t) e m l =
    pick_cases (λ (a : Scanned). a ≡ accepted_as e m → (m ≡ n + length (bytes t)) × (m ≤ room) × (final t ≡ good e)) (passes limit n) _ _
    (λ q h. not_accepted h)
    (λ q h. accepted_from full limit room n t e m l h)

pub accepted_whole : AcceptedWhole
accepted_whole full limit room t e n h = let d = accepted_from full limit room 0 t e n (omega arith) h in (d.0 ∙ zero-add (length (bytes t)), d.1, d.2)

-- ---- within the limit and the room
pub fewer : (limit n m : ℕ) → n ≤ m → passes limit m ≡ false → passes limit n ≡ false
unfolding passes
fewer limit n m h =
    pick_cases (λ (b : Bool). b ≡ false → pick (eqb limit 0) false (ltb limit n) ≡ false) (eqb limit 0) _ _
    (λ q e. rw q)
    (λ q e. rw (q, le-ltb limit n (omega (arith, ltb-false limit m e))))

within : (full : Refusal) (limit room n : ℕ) (t : Trace) → n + length (bytes t) ≤ room → passes limit (n + length (bytes t)) ≡ false
    → cut full limit room n t ≡ answer (n + length (bytes t)) (final t)
unfolding cut bytes final answer
within full limit room n (ends e) h o = rw add-zero
within full limit room n (fails f) h o = refl
within full limit room n (adds bs t) h o =
    let e : n + length (bs ++ bytes t) ≡ n + length bs + length (bytes t) = omega (arith, length-append bs (bytes t)) in
    rw (le-leb (n + length bs) room (omega arith), e) (within full limit room (n + length bs) t (omega arith) (rw e at o))
within full limit room n (checks f t) h o = rw (fewer limit n (n + length (bytes t)) (omega arith) o) (within full limit room n t h o)

pub uncut_within : UncutWithin
uncut_within full limit room t h o =
    within full limit room 0 t (omega arith) (rw (zero-add (length (bytes t))) o) ∙ ap (λ (n : ℕ). answer n (final t)) (zero-add (length (bytes t)))

-- ---- a looser limit, a larger room
looser : (l m n : ℕ) → Looser l m → passes l n ≡ false → passes m n ≡ false
unfolding passes
looser l m n (inl z) h = rw (eq-eqb m 0 z)
looser l m n (inr p) h =
    let k : ltb l n ≡ false = rw (ne_eqb l 0 (λ e. omega arith)) at h in
    rw (ne_eqb m 0 (λ e. omega arith), le-ltb m n (omega (arith, ltb-false l n k)))

module _ (full : Refusal) (l m r s : ℕ) (start : Position) (nine : number full.fault ≡ 9) (loose : Looser l m) (more : r ≤ s) where
  recurs : (n : ℕ) (t : Trace) → FairTrace start t → (refusal_number (cut full l r n t) ≡ 7 → ⊥) → (refusal_number (cut full l r n t) ≡ 9 → ⊥) → cut full m s n t ≡ cut full l r n t
  unfolding cut refusal_number
  recurs n (ends e) sv = λ x y. refl
  recurs n (fails f) sv = λ x y. refl
  recurs n (adds bs t) sv =
      pick_cases (λ (a : Scanned). (refusal_number a ≡ 7 → ⊥) → (refusal_number a ≡ 9 → ⊥) → pick (leb (n + length bs) s) (cut full m s (n + length bs) t) (Err full) ≡ a) (leb (n + length bs) r) _ _
      (λ q x y. rw (le-leb (n + length bs) s (omega (arith, leb-true (n + length bs) r q))) (recurs (n + length bs) t sv x y))
      (λ q x y. absurd (y nine))
  recurs n (checks f t) sv =
      pick_cases (λ (a : Scanned). (refusal_number a ≡ 7 → ⊥) → (refusal_number a ≡ 9 → ⊥) → pick (passes m n) (Err f) (cut full m s n t) ≡ a) (passes l n) _ _
      (λ q x y. absurd (x (ap number sv.0)))
      (λ q x y. rw (looser l m n loose q) (recurs n t sv.1 x y))

pub recurs_whole : RecursWhole
recurs_whole full l m r s start t nine sv loose more x y = recurs full l m r s start nine loose more 0 t sv x y

-- an accepted reading stays accepted
module _ (full : Refusal) (l m r s : ℕ) (loose : Looser l m) (more : r ≤ s) (e : End) (k : ℕ) where
  accepted : (n : ℕ) (t : Trace) → cut full l r n t ≡ accepted_as e k → cut full m s n t ≡ accepted_as e k
  unfolding cut
  accepted n (ends x) = λ h. h
  accepted n (fails f) = λ h. not_accepted h
  accepted n (adds bs t) =
      pick_cases (λ (a : Scanned). a ≡ accepted_as e k → pick (leb (n + length bs) s) (cut full m s (n + length bs) t) (Err full) ≡ accepted_as e k) (leb (n + length bs) r) _ _
      (λ q h. rw (le-leb (n + length bs) s (omega (arith, leb-true (n + length bs) r q))) (accepted (n + length bs) t h))
      (λ q h. not_accepted h)
  accepted n (checks f t) =
      pick_cases (λ (a : Scanned). a ≡ accepted_as e k → pick {A = Scanned} (passes m n) (Err f) (cut full m s n t) ≡ accepted_as e k) (passes l n) _ _
      (λ q h. not_accepted h)
      (λ q h. rw (looser l m n loose q) (accepted n t h))

pub stays_accepted : (full : Refusal) (l m r s : ℕ) (t : Trace) (e : End) (k : ℕ) → Looser l m → r ≤ s → cut full l r 0 t ≡ accepted_as e k → cut full m s 0 t ≡ accepted_as e k
stays_accepted full l m r s t e k loose more = accepted full l m r s loose more e k 0 t

-- ---- where a reading is cut
refusal_is : {f g : Refusal} → ◌≡◌ {A = Scanned} (Err f) (Err g) → f ≡ g
refusal_is h = cc

module _ (full : Refusal) (limit room : ℕ) where
  cuts_refuse : {n : ℕ} {t : Trace} {by : Bound} {f : Refusal} → Cuts full limit room n t by f → cut full limit room n t ≡ Err f
  unfolding cut
  cuts_refuse (no_room h) = rw (lt-leb _ _ h)
  cuts_refuse (too_long h) = rw h
  cuts_refuse (goes_on h c) = rw (le-leb _ _ h) (cuts_refuse c)
  cuts_refuse (is_tested h c) = rw h (cuts_refuse c)

  -- nothing cuts it
  abbrev pub Uncut : ℕ → Trace → Type 0
  Uncut n t = (by : Bound) (f : Refusal) → Cuts full limit room n t by f → ⊥

  uncut_from : (n : ℕ) (t : Trace) → Uncut n t → cut full limit room n t ≡ answer (n + length (bytes t)) (final t)
  unfolding cut bytes final answer
  uncut_from n (ends e) never = rw add-zero
  uncut_from n (fails f) never = refl
  uncut_from n (adds bs t) never =
      let e : n + length (bs ++ bytes t) ≡ n + length bs + length (bytes t) = omega (arith, length-append bs (bytes t)) in
      rw e
      (pick_cases (λ (a : Scanned). a ≡ answer (n + length bs + length (bytes t)) (final t)) (leb (n + length bs) room) _ _
      (λ q. uncut_from (n + length bs) t (λ by f c. never by f (goes_on (leb-true _ _ q) c)))
      (λ q. absurd (never literal_room full (no_room (leb-false _ _ q)))))
  uncut_from n (checks f t) never =
      pick_cases (λ (a : Scanned). a ≡ answer (n + length (bytes t)) (final t)) (passes limit n) _ _
      (λ q. absurd (never string_limit f (too_long q)))
      (λ q. uncut_from n t (λ by g c. never by g (is_tested q c)))

  -- a reading is cut, or nothing cuts it
  abbrev pub CutOrNot : ℕ → Trace → Type 0
  CutOrNot n t = ((by : Bound) × (f : Refusal) × Cuts full limit room n t by f) ⊎ Uncut n t

  behind_step : (n : ℕ) (bs : List ℕ) (t : Trace) → n + length bs ≤ room → Uncut (n + length bs) t → Uncut n (adds bs t)
  behind_step n bs t l never by f c = back c never
    where
      back : {f : Refusal} {by : Bound} → Cuts full limit room n (adds bs t) by f → Uncut (n + length bs) t → ⊥
      back (no_room h) never = omega arith
      back (goes_on h c) never = never _ _ c

  behind_test : (n : ℕ) (g : Refusal) (t : Trace) → passes limit n ≡ false → Uncut n t → Uncut n (checks g t)
  behind_test n g t l never by f c = back c never
    where
      back : {f : Refusal} {by : Bound} → Cuts full limit room n (checks g t) by f → Uncut n t → ⊥
      back (too_long h) never = let z : ◌≡◌ {A = Bool} true false = sym h ∙ l in absurd (let q : ◌≡◌ {A = ℕ} 0 1 = cc in omega arith)
      back (is_tested h c) never = never _ _ c

  cut_or_not : (n : ℕ) (t : Trace) → CutOrNot n t
  cut_or_not n (ends e) = inr (λ by f. elim [ ])
  cut_or_not n (fails g) = inr (λ by f. elim [ ])
  cut_or_not n (adds bs t) =
      pick_cases (λ (b : Bool). CutOrNot n (adds bs t)) (leb (n + length bs) room) true false
      (λ q. ⊎_elim (λ c. inl (c.0, c.1, goes_on (leb-true _ _ q) c.2)) (λ never. inr (behind_step n bs t (leb-true _ _ q) never)) (cut_or_not (n + length bs) t))
      (λ q. inl (literal_room, full, no_room (leb-false _ _ q)))
  cut_or_not n (checks g t) =
      pick_cases (λ (b : Bool). CutOrNot n (checks g t)) (passes limit n) true false
      (λ q. inl (string_limit, g, too_long q))
      (λ q. ⊎_elim (λ c. inl (c.0, c.1, is_tested q c.2)) (λ never. inr (behind_test n g t q never)) (cut_or_not n t))

  -- the refusal by what is passed: 7 at the literal's start, or the one for want of room
  abbrev pub RefusedBy : Position → Bound → Refusal → Type 0
  RefusedBy start string_limit f = f.fault ≡ string_too_long start
  RefusedBy start literal_room f = f ≡ full
  RefusedBy start token_room f = ⊥

  pub cuts_by : {n : ℕ} {t : Trace} {by : Bound} {f : Refusal} (start : Position) → FairTrace start t → Cuts full limit room n t by f → RefusedBy start by f
  cuts_by start sv (no_room h) = refl
  cuts_by start sv (too_long h) = sv.0
  cuts_by start sv (goes_on h c) = cuts_by start sv c
  cuts_by start sv (is_tested h c) = cuts_by start sv.1 c

pub cut_there : CutThere
cut_there full limit room t by f c = cuts_refuse full limit room c

pub uncut_else : UncutElse
uncut_else full limit room t never = uncut_from full limit room 0 t never ∙ ap (λ (n : ℕ). answer n (final t)) (zero-add (length (bytes t)))

pub cut_decided : (full : Refusal) (limit room : ℕ) (t : Trace) → CutOrNot full limit room 0 t
cut_decided full limit room t = cut_or_not full limit room 0 t

-- ---- a refusal by a rule of its own is neither 7 nor 9 nor 10
pub own_refusal : (start : Position) (t : Trace) (f : Refusal) → FairTrace start t → final t ≡ bad f → Own f.fault
unfolding final
own_refusal start (ends e) f sv h = absurd (let q : ◌≡◌ {A = ℕ} 0 1 = cc in omega arith)
own_refusal start (fails g) f sv h = let q : g ≡ f = cc in rw (← q) sv
own_refusal start (adds bs t) f sv h = own_refusal start t f sv h
own_refusal start (checks g t) f sv h = own_refusal start t f sv.1 h

-- an answer by the unlimited rules that is a refusal is one of those
pub answer_bad : (n : ℕ) (o : Outcome) (f : Refusal) → answer n o ≡ Err f → o ≡ bad f
unfolding answer
answer_bad n (good e) f h = not_accepted (sym h)
answer_bad n (bad g) f h = ap bad (refusal_is h)

module _ (full : Refusal) (limit room : ℕ) (start : Position) (t : Trace) (f : Refusal) (nine : number full.fault ≡ 9) (sv : FairTrace start t) (h : cut full limit room 0 t ≡ Err f) where
  -- it is cut so, or is refused by a rule of its own
  abbrev CutSo : Type 0
  CutSo = ((by : Bound) × Cuts full limit room 0 t by f) ⊎ Own f.fault

  refused_so : CutSo
  refused_so = by (cut_decided full limit room t)
    where
      by : CutOrNot full limit room 0 t → CutSo
      by (inl (b, g, c)) = let q : g ≡ f = refusal_is (sym (cut_there full limit room t b g c) ∙ h) in inl (b, rw q at c)
      by (inr never) = inr (own_refusal start t f sv (answer_bad (length (bytes t)) (final t) f (sym (uncut_else full limit room t never) ∙ h)))

  seven : number f.fault ≡ 7 → CutSo → Cuts full limit room 0 t string_limit f
  seven e (inr own) = absurd (own.0 e)
  seven e (inl (string_limit, c)) = c
  seven e (inl (literal_room, c)) = absurd (let q = ap (λ (g : Refusal). number g.fault) (cuts_by full limit room start sv c) in omega arith)
  seven e (inl (token_room, c)) = absurd (cuts_by full limit room start sv c)

  nine_so : number f.fault ≡ 9 → CutSo → Cuts full limit room 0 t literal_room f
  nine_so e (inr own) = absurd (own.1 e)
  nine_so e (inl (string_limit, c)) = absurd (let q = ap number (cuts_by full limit room start sv c) in omega arith)
  nine_so e (inl (literal_room, c)) = c
  nine_so e (inl (token_room, c)) = absurd (cuts_by full limit room start sv c)

pub cut_at_the_first : CutAtTheFirst
cut_at_the_first full limit room start t f nine sv h =
    let r = refused_so full limit room start t f nine sv h in (λ e. seven full limit room start t f nine sv h e r, λ e. nine_so full limit room start t f nine sv h e r)
