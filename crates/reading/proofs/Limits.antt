-- What passes in a reading, and what the bounds leave of it, over any reading. Assumes nothing.
use Rattle.std.specs.Prelude.{Err, Ok}
use Prim.Native.Nat.{ℕ, ◌+◌, ◌-◌, ◌≤◌}
use native.Mathlib.Omega.{arith}
use native.Mathlib.Nat.{add-zero}
use mathlib.Core.Bool.{Bool, true, false}
use mathlib.Core.List.{List, [], ◌∷◌}
use mathlib.Core.Logic.{◌⊎◌, inl, inr}
use mathlib.Core.Path.{◌≡◌, refl, sym, ap, ◌∙◌}
use lib.Dec.{ltb}
use lib.ListN.{length}
use borrow.Author.Tests.{lt-ltb, le-ltb, ltb-true, ltb-false}
use Rattle.basis.specs.Pick.{pick}
use Rattle.basis.proofs.Cases.{pick_cases}
use Rattle.position.specs.declared.Position.{Position}
use Rattle.fault.specs.declared.Fault.{Fault}
use Rattle.fault.specs.Faults.{no_token_room, Own}
use Rattle.chars.specs.declared.cursor.Cursor.{Cursor}
use Rattle.literal.specs.declared.End.{End}
use Rattle.literal.specs.declared.Refusal.{Refusal}
use Rattle.literal.specs.Scans.{Scanned, accepted_as}
use Rattle.literal.specs.Trace.{Trace, bytes, final, Outcome, good, bad}
use Rattle.literal.specs.Told.{refusal_number}
use Rattle.literal.specs.Cut.{answer}
use Rattle.literal.specs.Limits.{FairTrace, Bound, string_limit, literal_room, token_room}
use Rattle.literal.proofs.Limits.{accepted_whole, recurs_whole, stays_accepted, own_refusal, cut_there, uncut_else, RefusedBy, cuts_by, CutOrNot, cut_decided}
use Rattle.reading.specs.Endings.{Ending}
use Rattle.reading.specs.Reading.{Token, Reading, finishes, halts, spoils, lists, reads, Kept, kept, kept_part, Left, nothing_more, more, on_outcome, whole}
use Rattle.literal.specs.Answers.{full}
use Rattle.reading.specs.CutRun.{scanned, on_scan, cut_run}
use Rattle.reading.specs.declared.Bounds.{Bounds}
use Rattle.reading.specs.Limits.{
  Fair,
  Wider,
  Begins,
  EndsOwn,
  Caused,
  refused_by,
  LiteralPasses,
  TokenPasses,
  a_literal,
  an_unlisted,
  its_entry,
  an_entry,
  NextToken,
  a_part,
  read_well,
  First,
  this_one,
  behind,
  FirstPast,
  stopped,
  StopsThere,
  WholeElse,
  OnlyThere,
  ListsTheFirst,
  Repeats,
  Recurs,
}

-- ---- cases
-- what holds of a run that goes on behind a scan, and of one that the scan stops, holds of what the scan leads to
pub on_scan_lem : (P : Left → Type 0) (a : Scanned) (next : ℕ → Left) → ((e : End) (m : ℕ) → a ≡ accepted_as e m → P (next m)) → ((f : Refusal) → a ≡ Err f → P (nothing_more (Err f.fault))) → P (on_scan a next)
on_scan_lem P (Ok (e, m)) next h g = h e m refl
on_scan_lem P (Err f) next h g = g f refl

stop_is : {f g : Fault} → ◌≡◌ {A = Ending} (Err f) (Err g) → f ≡ g
stop_is h = cc

-- ---- the tokens that are listed
nothing_begins : (x : Ending) (l : Left) → Begins (nothing_more x) l
nothing_begins x l = record { further = l.tokens; tokens = refl }

more_begins : (k : Kept) (l m : Left) → Begins l m → Begins (more k l) (more k m)
more_begins k l m h = record { further = h.further; tokens = ap (λ (ks : List Kept). k ∷ ks) h.tokens }

module _ (b : Bounds) where
  first : (n used : ℕ) (r : Reading) → Begins (cut_run b n used r) (whole used r)
  unfolding cut_run whole
  first n used (finishes p) = nothing_begins _ _
  first n used (halts f) = nothing_begins _ _
  first n used (spoils s t f) = on_scan_lem (λ (l : Left). Begins l (whole used (spoils s t f))) (scanned b used s t) _ (λ e m h. nothing_begins _ _) (λ g h. nothing_begins _ _)
  first n used (lists k r) =
      pick_cases (λ (l : Left). Begins l (whole used (lists k r))) (ltb n b.entries) _ _ (λ h. more_begins _ _ _ (first (n + 1) used r)) (λ h. nothing_begins _ _)
  first n used (reads k t r) =
      on_scan_lem (λ (l : Left). Begins l (whole used (reads k t r))) (scanned b used k.start t) _
      (λ e m h.
      let d = accepted_whole _ _ _ t e m h in
      rw (d.2, ← d.0)
      (pick_cases (λ (l : Left). Begins l (more (kept k used m (bytes t)) (whole (used + m) r))) (ltb n b.entries) _ _ (λ g. more_begins _ _ _ (first (n + 1) (used + m) r)) (λ g. nothing_begins _ _)))
      (λ g h. nothing_begins _ _)

pub lists_the_first : ListsTheFirst
lists_the_first b r = first b 0 0 r

-- ---- wider bounds
in_wider : (n a c : ℕ) → a ≤ c → ltb n a ≡ true → ltb n c ≡ true
in_wider n a c h e = lt-ltb n c (omega (arith, ltb-true n a e))

module _ (b c : Bounds) (w : Wider b c) where
  -- a literal that is accepted stays accepted
  accepted_wider : (used : ℕ) (s : Cursor) (t : Trace) (e : End) (m : ℕ) → scanned b used s t ≡ accepted_as e m → scanned c used s t ≡ accepted_as e m
  accepted_wider used s t e m h = stays_accepted (full s) b.limit c.limit (b.literals - used) (c.literals - used) t e m w.0 (omega (arith, w.1)) h

  -- one that is refused for no limit and no room stays refused
  refused_wider : (used : ℕ) (s : Cursor) (t : Trace) (f : Refusal) → FairTrace s.place t → Own f.fault → scanned b used s t ≡ Err f → scanned c used s t ≡ Err f
  unfolding refusal_number
  refused_wider used s t f sv own h =
      recurs_whole (full s) b.limit c.limit (b.literals - used) (c.literals - used) s.place t refl sv w.0 (omega (arith, w.1)) (λ e. own.0 (rw h at e)) (λ e. own.1 (rw h at e)) ∙ h

  repeat : (n used : ℕ) (r : Reading) → Begins (cut_run b n used r) (cut_run c n used r)
  unfolding cut_run
  repeat n used (finishes p) = nothing_begins _ _
  repeat n used (halts f) = nothing_begins _ _
  repeat n used (spoils s t f) = on_scan_lem (λ (l : Left). Begins l (cut_run c n used (spoils s t f))) (scanned b used s t) _ (λ e m h. nothing_begins _ _) (λ g h. nothing_begins _ _)
  repeat n used (lists k r) =
      pick_cases (λ (l : Left). Begins l (cut_run c n used (lists k r))) (ltb n b.entries) _ _
      (λ h. rw (in_wider n _ _ w.2 h) (more_begins _ _ _ (repeat (n + 1) used r)))
      (λ h. nothing_begins _ _)
  repeat n used (reads k t r) =
      on_scan_lem (λ (l : Left). Begins l (cut_run c n used (reads k t r))) (scanned b used k.start t) _
      (λ e m h.
      rw (accepted_wider used k.start t e m h)
      (pick_cases (λ (l : Left). Begins l (pick (ltb n c.entries) (more (kept k used m (bytes t)) (cut_run c (n + 1) (used + m) r)) (nothing_more (Err (no_token_room k.start.place))))) (ltb n b.entries) _ _
      (λ g. rw (in_wider n _ _ w.2 g) (more_begins _ _ _ (repeat (n + 1) (used + m) r)))
      (λ g. nothing_begins _ _)))
      (λ g h. nothing_begins _ _)

pub repeats : Repeats
repeats b c r w = repeat b c w 0 0 r

-- ---- an ending that no limit and no room causes
-- a stop for want of an entry is one of them
not_ten {ℓ} : {A : Type ℓ} (p : Position) → EndsOwn (nothing_more (Err (no_token_room p))) → A
not_ten p h = absurd ((h _ refl).2 refl)

module _ (b c : Bounds) (w : Wider b c) where
  recur : (n used : ℕ) (r : Reading) → Fair r → EndsOwn (cut_run b n used r) → cut_run c n used r ≡ cut_run b n used r
  unfolding cut_run
  recur n used (finishes p) fair = λ own. refl
  recur n used (halts f) fair = λ own. refl
  recur n used (spoils s t f) fair =
      on_scan_lem (λ (l : Left). EndsOwn l → on_scan (scanned c used s t) (λ m. nothing_more (Err f)) ≡ l) (scanned b used s t) (λ m. nothing_more (Err f))
      (λ e m h own. rw (accepted_wider b c w used s t e m h))
      (λ g h own. rw (refused_wider b c w used s t g fair.0 (own _ refl) h))
  recur n used (lists k r) fair =
      pick_cases (λ (l : Left). EndsOwn l → cut_run c n used (lists k r) ≡ l) (ltb n b.entries) _ _
      (λ h own. rw (in_wider n _ _ w.2 h) (ap (more (kept_part k)) (recur (n + 1) used r fair own)))
      (λ h own. not_ten k.start.place own)
  recur n used (reads k t r) fair =
      on_scan_lem (λ (l : Left). EndsOwn l → cut_run c n used (reads k t r) ≡ l) (scanned b used k.start t) _
      (λ e m h.
      rw (accepted_wider b c w used k.start t e m h)
      (pick_cases (λ (l : Left). EndsOwn l → pick (ltb n c.entries) (more (kept k used m (bytes t)) (cut_run c (n + 1) (used + m) r)) (nothing_more (Err (no_token_room k.start.place))) ≡ l) (ltb n b.entries) _ _
      (λ g own. rw (in_wider n _ _ w.2 g) (ap (more (kept k used m (bytes t))) (recur (n + 1) (used + m) r fair.1 own)))
      (λ g own. not_ten k.start.place own)))
      (λ g h own. rw (refused_wider b c w used k.start t g fair.0 (own _ refl) h))

pub recurs : Recurs
recurs b c r fair w own = recur b c w 0 0 r fair own

-- ---- the token that passes
module _ (b : Bounds) (used : ℕ) (s : Cursor) (t : Trace) where
  -- a literal that passes is refused at its start
  passes_refused : (by : Bound) → FairTrace s.place t → LiteralPasses b used s t by → (f : Refusal) × (scanned b used s t ≡ Err f) × (f.fault ≡ refused_by by s.place)
  passes_refused by sv (f, c) = (f, cut_there (full s) b.limit (b.literals - used) t by f c, same by (cuts_by (full s) b.limit (b.literals - used) s.place sv c))
    where
      same : (by : Bound) → RefusedBy (full s) b.limit (b.literals - used) s.place by f → f.fault ≡ refused_by by s.place
      same string_limit q = q
      same literal_room q = ap (λ (g : Refusal). g.fault) q
      same token_room q = absurd q

  -- one that passes neither is answered as the unlimited rules say
  passes_none : ((by : Bound) → LiteralPasses b used s t by → ⊥) → scanned b used s t ≡ answer (length (bytes t)) (final t)
  passes_none never = uncut_else (full s) b.limit (b.literals - used) t (λ by f c. never by (f, c))

  read_so : ((by : Bound) → LiteralPasses b used s t by → ⊥) → {e : End} → final t ≡ good e → scanned b used s t ≡ accepted_as e (length (bytes t))
  unfolding answer
  read_so never q = passes_none never ∙ ap (answer (length (bytes t))) q

  -- it passes one of them, or none
  literal_decided : ((by : Bound) × LiteralPasses b used s t by) ⊎ ((by : Bound) → LiteralPasses b used s t by → ⊥)
  literal_decided = by (cut_decided (full s) b.limit (b.literals - used) t)
    where
      by : CutOrNot (full s) b.limit (b.literals - used) 0 t → ((by : Bound) × LiteralPasses b used s t by) ⊎ ((by : Bound) → LiteralPasses b used s t by → ⊥)
      by (inl (w, f, c)) = inl (w, (f, c))
      by (inr never) = inr (λ w p. never w p.0 p.1)

module _ (b : Bounds) where
  -- what is left where the next token passes
  passed : {n used : ℕ} {r : Reading} {by : Bound} {p : Position} → Fair r → TokenPasses b n used r by p → cut_run b n used r ≡ stopped [] by p
  unfolding cut_run
  passed fair (a_literal {k} {t} {r} {by} l) = let x = passes_refused b _ k.start t by fair.0 l in rw (x.1, x.2)
  passed fair (an_unlisted {s} {t} {f} {by} l) = let x = passes_refused b _ s t by fair.0 l in rw (x.1, x.2)
  passed fair (its_entry {k} {t} never q l) = rw (read_so b _ k.start t never q, le-ltb _ _ l)
  passed fair (an_entry l) = rw (le-ltb _ _ l)

  -- an entry that does not pass has room
  has_room : (n : ℕ) → (b.entries ≤ n → ⊥) → ltb n b.entries ≡ true
  has_room n never = by (ltb n b.entries) refl
    where
      by : (x : Bool) → ltb n b.entries ≡ x → ltb n b.entries ≡ true
      by true q = q
      by false q = absurd (never (ltb-false _ _ q))

  -- the next token, where it does not pass
  next_on : {n used : ℕ} {r rest : Reading} {x : Kept} → NextToken used r x rest → ((to : Bound) (q : Position) → TokenPasses b n used r to q → ⊥)
      → cut_run b n used r ≡ more x (cut_run b (n + 1) (used + length x.bytes) rest)
  unfolding cut_run
  next_on {used = used} a_part never = rw (has_room _ (λ l. never _ _ (an_entry l)), add-zero used)
  next_on {used = used} (read_well {k} {t} q) never =
      let within : (by : Bound) → LiteralPasses b used k.start t by → ⊥ = λ by l. never _ _ (a_literal l) in
      rw (read_so b used k.start t within q, has_room _ (λ l. never _ _ (its_entry within q l)))

  next_fair : {used : ℕ} {r rest : Reading} {x : Kept} → NextToken used r x rest → Fair r → Fair rest
  next_fair a_part fair = fair
  next_fair (read_well q) fair = fair.1

  there : {n used : ℕ} {r : Reading} {ks : List Kept} {by : Bound} {p : Position} → Fair r → First b n used r ks by p → cut_run b n used r ≡ stopped ks by p
  there fair (this_one x) = passed fair x
  there fair (behind {k = k} next never x) = next_on next never ∙ ap (more k) (there (next_fair next fair) x)

  -- none passes
  abbrev None : ℕ → ℕ → Reading → Type 0
  None n used r = FirstPast b n used r → ⊥

  -- not the next one, and none behind it
  none_here : {n used : ℕ} {r : Reading} → None n used r → (to : Bound) (q : Position) → TokenPasses b n used r to q → ⊥
  none_here never to q x = never (record { tokens = []; bound = to; place = q; first = this_one x })

  none_behind : {n used : ℕ} {r rest : Reading} {k : Kept} → NextToken used r k rest → None n used r → None (n + 1) (used + length k.bytes) rest
  none_behind {k = k} next never x = never (record { tokens = k ∷ x.tokens; bound = x.bound; place = x.place; first = behind next (none_here never) x.first })

  -- a literal's end, as the unlimited rules have it
  ended_so : (o : Outcome) (next : ℕ → Left) (l : Left) (m : ℕ) → ((e : End) → o ≡ good e → next m ≡ l) → on_scan (answer m o) next ≡ on_outcome o l
  unfolding answer
  ended_so (good e) next l m h = h e refl
  ended_so (bad f) next l m h = refl

  all : (n used : ℕ) (r : Reading) → None n used r → cut_run b n used r ≡ whole used r
  unfolding cut_run whole
  all n used (finishes p) never = refl
  all n used (halts f) never = refl
  all n used (spoils s t f) never = rw (passes_none b used s t (λ by l. none_here never _ _ (an_unlisted l))) (ended_so (final t) _ _ _ (λ e q. refl))
  all n used (lists k r) never =
      next_on a_part (none_here never) ∙ ap (more (kept_part k)) (all (n + 1) (used + 0) r (none_behind a_part never) ∙ ap (λ (m : ℕ). whole m r) (add-zero used))
  all n used (reads k t r) never =
      let ih = all (n + 1) (used + length (bytes t)) r in
      rw (passes_none b used k.start t (λ by l. none_here never _ _ (a_literal l)))
      (ended_so (final t) _ _ _ (λ e q. rw (has_room n (λ l. none_here never _ _ (its_entry (λ by x. none_here never _ _ (a_literal x)) q l))) (ap (more _) (ih (none_behind (read_well q) never)))))

  -- a token passes, or none does
  abbrev Found : ℕ → ℕ → Reading → Type 0
  Found n used r = FirstPast b n used r ⊎ None n used r

  here : {n used : ℕ} {r : Reading} {by : Bound} {p : Position} → TokenPasses b n used r by p → Found n used r
  here {by = by} {p} x = inl (record { tokens = []; bound = by; place = p; first = this_one x })

  -- the next one does not, and there is one token that it can be: then one behind it passes, or none
  module _ {n used : ℕ} {r rest : Reading} {k : Kept} (next : NextToken used r k rest) (never : (to : Bound) (q : Position) → TokenPasses b n used r to q → ⊥)
      (same : (x : Kept) (rest' : Reading) → NextToken used r x rest' → (x ≡ k) × (rest' ≡ rest)) where
    further : Found (n + 1) (used + length k.bytes) rest → Found n used r
    further (inl x) = inl (record { tokens = k ∷ x.tokens; bound = x.bound; place = x.place; first = behind next never x.first })
    further (inr none) = inr (λ x. back x.first)
      where
        back : {ks : List Kept} {by : Bound} {p : Position} → First b n used r ks by p → ⊥
        back (this_one x) = never _ _ x
        back (behind {ks = ks} {by} {p} other q x) = let z = same _ _ other in none (record { tokens = ks; bound = by; place = p; first = rw (← z.0, ← z.1) x })

  -- a reading that has no next token
  last : {n used : ℕ} {r : Reading} → ((to : Bound) (q : Position) → TokenPasses b n used r to q → ⊥) → ((x : Kept) (rest : Reading) → NextToken used r x rest → ⊥) → Found n used r
  last {n} {used} {r} never end = inr (λ x. back x.first)
    where
      back : {ks : List Kept} {by : Bound} {p : Position} → First b n used r ks by p → ⊥
      back (this_one x) = never _ _ x
      back (behind next q x) = end _ _ next

  module _ (n used : ℕ) (t : Trace) where
    spoils_decided : (s : Cursor) (f : Fault) → ((by : Bound) × LiteralPasses b used s t by) ⊎ ((by : Bound) → LiteralPasses b used s t by → ⊥) → Found n used (spoils s t f)
    spoils_decided s f (inl (w, x)) = here (an_unlisted x)
    spoils_decided s f (inr never) = last not_here (λ x rest. elim [ ])
      where
        not_here : (to : Bound) (q : Position) → TokenPasses b n used (spoils s t f) to q → ⊥
        not_here to q (an_unlisted x) = never _ x

    reads_decided : (k : Token) (r : Reading) → ((by : Bound) × LiteralPasses b used k.start t by) ⊎ ((by : Bound) → LiteralPasses b used k.start t by → ⊥)
        → (o : Outcome) → final t ≡ o → (x : Bool) → ltb n b.entries ≡ x → Found (n + 1) (used + length (bytes t)) r → Found n used (reads k t r)
    reads_decided k r (inl (w, x)) o q y h ih = here (a_literal x)
    reads_decided k r (inr never) (bad f) q y h ih = last not_here not_next
      where
        not_good : {e : End} → final t ≡ good e → ⊥
        not_good g = let z : good _ ≡ bad f = sym g ∙ q in absurd (let q : ◌≡◌ {A = ℕ} 0 1 = cc in omega arith)

        not_here : (to : Bound) (p : Position) → TokenPasses b n used (reads k t r) to p → ⊥
        not_here to p (a_literal x) = never _ x
        not_here to p (its_entry x g l) = not_good g

        not_next : (x : Kept) (rest : Reading) → NextToken used (reads k t r) x rest → ⊥
        not_next x rest (read_well g) = not_good g
    reads_decided k r (inr never) (good e) q false h ih = here (its_entry never q (ltb-false _ _ h))
    reads_decided k r (inr never) (good e) q true h ih = further (read_well q) not_here same ih
      where
        not_here : (to : Bound) (p : Position) → TokenPasses b n used (reads k t r) to p → ⊥
        not_here to p (a_literal x) = never _ x
        not_here to p (its_entry x g l) = absurd (omega (arith, l, ltb-true n b.entries h))

        same : (x : Kept) (rest' : Reading) → NextToken used (reads k t r) x rest' → (x ≡ kept k used (length (bytes t)) (bytes t)) × (rest' ≡ r)
        same x rest' (read_well g) = (refl, refl)

  lists_decided : (n used : ℕ) (k : Token) (r : Reading) → (x : Bool) → ltb n b.entries ≡ x → Found (n + 1) (used + length {A = ℕ} []) r → Found n used (lists k r)
  lists_decided n used k r false h ih = here (an_entry (ltb-false _ _ h))
  lists_decided n used k r true h ih = further a_part not_here same ih
    where
      not_here : (to : Bound) (p : Position) → TokenPasses b n used (lists k r) to p → ⊥
      not_here to p (an_entry l) = absurd (omega (arith, l, ltb-true n b.entries h))

      same : (x : Kept) (rest' : Reading) → NextToken used (lists k r) x rest' → (x ≡ kept_part k) × (rest' ≡ r)
      same x rest' a_part = (refl, refl)

  decided : (n used : ℕ) (r : Reading) → Found n used r
  decided n used (finishes p) = last (λ to q. elim [ ]) (λ x rest. elim [ ])
  decided n used (halts f) = last (λ to q. elim [ ]) (λ x rest. elim [ ])
  decided n used (spoils s t f) = spoils_decided n used t s f (literal_decided b used s t)
  decided n used (lists k r) = lists_decided n used k r (ltb n b.entries) refl (decided (n + 1) (used + length {A = ℕ} []) r)
  decided n used (reads k t r) = reads_decided n used t k r (literal_decided b used k.start t) (final t) refl (ltb n b.entries) refl (decided (n + 1) (used + length (bytes t)) r)

pub stops_there : StopsThere
stops_there b r fair x = there b fair x.first

pub whole_else : WholeElse
whole_else b r never = all b 0 0 r never

pub first_decided : (b : Bounds) (r : Reading) → FirstPast b 0 0 r ⊎ (FirstPast b 0 0 r → ⊥)
first_decided b r = decided b 0 0 r

-- ---- 7, 9 and 10
caused_not_own {ℓ} : {A : Type ℓ} (f : Fault) → Caused f → Own f → A
caused_not_own f (inl e) own = absurd (own.0 e)
caused_not_own f (inr (inl e)) own = absurd (own.1 e)
caused_not_own f (inr (inr e)) own = absurd (own.2 e)

-- where nothing cuts, a run ends by a rule of its own
stop_own : (g : Fault) → Own g → EndsOwn (nothing_more (Err g))
stop_own g own f h = rw (← stop_is h) own

end_own : (start : Position) (t : Trace) → FairTrace start t → (o : Outcome) → final t ≡ o → (l : Left) → EndsOwn l → EndsOwn (on_outcome o l)
end_own start t sv (good e) h l own = own
end_own start t sv (bad g) h l own = stop_own g.fault (own_refusal start t g sv h)

pub whole_own : (used : ℕ) (r : Reading) → Fair r → EndsOwn (whole used r)
unfolding whole
whole_own used (finishes p) fair = λ f h. absurd (let q : ◌≡◌ {A = ℕ} 0 1 = cc in omega arith)
whole_own used (halts g) fair = stop_own g fair
whole_own used (spoils s t g) fair = end_own s.place t fair.0 (final t) refl _ (stop_own g fair.1)
whole_own used (lists k r) fair = whole_own used r fair
whole_own used (reads k t r) fair = end_own k.start.place t fair.0 (final t) refl _ (whole_own (used + length (bytes t)) r fair.1)

pub only_there : OnlyThere
only_there b r f fair h caused = by (first_decided b r)
  where
    by : FirstPast b 0 0 r ⊎ (FirstPast b 0 0 r → ⊥) → FirstPast b 0 0 r
    by (inl x) = x
    by (inr never) = caused_not_own f caused (whole_own 0 r fair f (rw (whole_else b r never) at h))
