-- Where a run stands between two turns, and what a turn makes of that. Assumes nothing.
use Rattle.std.specs.Prelude.{Err, Ok}
use Prim.Native.Nat.{ℕ, ◌+◌, ◌-◌, ◌*◌, ◌≤◌, ◌<◌}
use native.Mathlib.Omega.{arith}
use native.Mathlib.Nat.{add-zero}
use mathlib.Core.Bool.{Bool, true, false}
use mathlib.Core.List.{List, []}
use mathlib.Core.Path.{◌≡◌, refl, sym, ap, ◌∙◌}
use lib.Dec.{ltb}
use Rattle.basis.specs.Pick.{pick}
use Rattle.fault.specs.Faults.{no_token_room}
use lib.ListN.{length}
use lib.Seq.{sets}
use borrow.Author.Tests.{ltb-true}
use Rattle.literal.specs.Trace.{Trace, bytes}
use Rattle.literal.specs.Scans.{Scanned}
use Rattle.literal.proofs.Limits.{accepted_whole}
use Rattle.reading.specs.Reading.{Token, Left, kept_part, nothing_more, more}
use Rattle.entry.specs.Entries.{entry}
use Rattle.literal.specs.Answers.{full}
use Rattle.reading.specs.CutRun.{scanned, cut_run}
use Rattle.reading.specs.declared.Bounds.{Bounds}
use Rattle.entry.specs.declared.Entry.{Entry}
use Rattle.script.specs.Rules.{Rules}
use Rattle.script.specs.Steps.{Step, on, last, Note, nothing, token, literal, packed_of, step_of}
use Rattle.script.specs.Script.{script_from}
use Rattle.script.specs.States.{Fine}
use Rattle.script.specs.declared.State.{State}
use Rattle.script.proofs.Ahead.{Ahead, Takes, step_ahead}
use Rattle.turn.specs.Turns.{on_scanned, step_next, step_state, step_bytes, Went, turned, turn_of, literals_then, literals_behind}
use Rattle.turn.specs.declared.Next.{Next}
use Rattle.turn.specs.declared.Next.TheVariants.{On, Listed, Over}
use Rattle.turn.proofs.Cuts.{note_values, step_values, Comes, turn_comes}

-- between two turns: n entries are listed, one at most for each byte of the script that was passed, and so many literal bytes used, four at most for each
pub record Stands (t : List ℕ) (b : Bounds) (s : State) (n used : ℕ) : Type 0 where
  pub fine : Fine s
  pub within : s.cursor.at ≤ length t
  pub room : used ≤ b.literals
  pub few : used ≤ 4 * s.cursor.at
  pub short : n ≤ s.cursor.at
  pub free : n ≤ b.entries

-- the numbers of an entry are far below 2^32
abbrev pub Small : Entry → Type 0
Small e = (e.at ≤ 67108864) × (e.len ≤ 67108864)

module _ (rules : Rules) (t book : List ℕ) (b : Bounds) where
  -- what is left of the script
  abbrev pub left : State → ℕ → ℕ → Left
  left s n used = cut_run b n used (script_from rules t book s)

  module _ (s : State) (n used : ℕ) where
    -- what a turn that packs bs, with the values vs, makes of it
    abbrev pub Makes : State → ℕ → List ℕ → List ℕ → Next → Type 0
    Makes s' used' bs vs On = (s.cursor.at < s'.cursor.at) × Stands t b s' n used' × (left s n used ≡ left s' n used') × (bs ≡ [])
    Makes s' used' bs vs (Listed e) =
        (s.cursor.at < s'.cursor.at)
        × Stands t b s' (n + 1) used'
        × (left s n used ≡ more (record { entry = e; bytes = bs; values = vs }) (left s' (n + 1) used'))
        × Small e
        × (n < b.entries)
    Makes s' used' bs vs (Over e) = left s n used ≡ nothing_more e

    module _ (small : length t ≤ 16777216) (stands : Stands t b s n used) where
      module _ (s' : State) (on-further : s.cursor.at < s'.cursor.at) (inside : s'.cursor.at ≤ length t) (fine : Fine s') where
        after : (m bs : ℕ) → m ≤ b.entries → m ≤ n + 1 → used + bs ≤ b.literals → bs + 4 * s.cursor.at ≤ 4 * s'.cursor.at → Stands t b s' m (used + bs)
        after m bs f g r q = record { fine = fine; within = inside; room = r; few = omega (arith, stands.few); short = omega (arith, stands.short); free = f }

        -- what is left, by what the next turn says of it
        abbrev Came : List ℕ → List ℕ → Next → Type 0
        Came bs vs next = Comes b n used (left s n used) (λ m u. left s' m u) bs vs next

        -- an entry, or 10
        abbrev listed : Bool → Entry → Next
        listed free e = pick free (Listed e) (Over (Err (no_token_room e.place)))

        token_makes : (e : Entry) (vs : List ℕ) → Small e → (free : Bool) → ltb n b.entries ≡ free → Came [] vs (listed free e) → Makes s' (used + 0) [] vs (listed free e)
        token_makes e vs z true y c = let f = ltb-true n b.entries y in (on-further, after (n + 1) 0 (omega (arith, f)) (omega arith) (omega (arith, stands.room)) (omega arith), c, z, f)
        token_makes e vs z false y c = c

        literal_makes : (k : Token) (x : Trace) → Takes (literal k x) s.cursor.at s'.cursor.at
            → (a : Scanned) → scanned b used k.start x ≡ a → (free : Bool) → ltb n b.entries ≡ free
            → Came (bytes x) k.values (on_scanned a (λ m. listed free (entry k.kind k.start.place used m)))
            → Makes s' (used + length (bytes x)) (bytes x) k.values (on_scanned a (λ m. listed free (entry k.kind k.start.place used m)))
        literal_makes k x q (Err f) h free y c = c
        literal_makes k x q (Ok (e, m)) h false y c = c
        literal_makes k x q (Ok (e, m)) h true y c =
            let f = ltb-true n b.entries y in
            let w = accepted_whole (full k.start) b.limit (b.literals - used) x e m h in
            (on-further, after (n + 1) (length (bytes x)) (omega (arith, f)) (omega arith) (omega (arith, w.0, w.1, stands.room)) q, c, (omega (arith, stands.few), omega (arith, w.0)), f)

        note_makes : (x : Note) → Takes x s.cursor.at s'.cursor.at → Came (packed_of x) (note_values x) (step_next b n used (on x s'))
            → Makes s' (used + length (packed_of x)) (packed_of x) (note_values x) (step_next b n used (on x s'))
        unfolding step_next
        note_makes nothing q c = (on-further, after n 0 stands.free (omega arith) (omega (arith, stands.room)) (omega arith), c ∙ ap (left s' n) (sym (add-zero used)), refl)
        note_makes (token k) q c = token_makes (kept_part k).entry k.values (omega (arith, q), omega (arith, q)) (ltb n b.entries) refl c
        note_makes (literal k x) q c = literal_makes k x q (scanned b used k.start x) refl (ltb n b.entries) refl c

      step_makes : (x : Step) → Ahead t s x → Comes b n used (left s n used) (λ m u. left (step_state s x) m u) (step_bytes x) (step_values x) (step_next b n used x)
          → Makes (step_state s x) (used + length (step_bytes x)) (step_bytes x) (step_values x) (step_next b n used x)
      unfolding step_state step_bytes step_values step_next
      step_makes (last r) i c = c
      step_makes (on x s') (f, l, g, q) c = note_makes s' f l g x q c

      abbrev step : Step
      step = step_of rules t book s

      pub turn_makes : Makes (step_state s step) (used + length (step_bytes step)) (step_bytes step) (step_values step) (step_next b n used step)
      turn_makes = step_makes step (step_ahead rules t book s stands.fine small stands.within) (turn_comes b n used rules t book s stands.fine small stands.within)

    -- the step that is taken here
    abbrev x : Step
    x = step_of rules t book s

    -- what is known behind a turn of the code, which leads to r, and new in the memory that was old
    abbrev pub After : List ℕ → List ℕ → Went → Next → Type 0
    After old new r On = (s.cursor.at < r.state.cursor.at) × Stands t b r.state n r.used × (left s n used ≡ left r.state n r.used) × (r.used ≡ used) × (new ≡ old)
    After old new r (Listed e) =
        (s.cursor.at < r.state.cursor.at)
        × Stands t b r.state (n + 1) r.used
        × (left s n used ≡ more (record { entry = e; bytes = step_bytes x; values = step_values x }) (left r.state (n + 1) r.used))
        × Small e
        × (n < b.entries)
        × (r.used ≡ used + length (step_bytes x))
        × (new ≡ sets old used (step_bytes x))
    After old new r (Over e) = (left s n used ≡ nothing_more e) × (new ≡ old)

    module _ (small : length t ≤ 16777216) (stands : Stands t b s n used) (old : List ℕ) where
      pub turn_after : (r : Went) (new : List ℕ) → r ≡ turn_of b n used s x → new ≡ literals_behind b n used x old → After old new r r.next
      unfolding turn_of literals_behind
      turn_after r new p q = rw (p, q) (by (step_next b n used x) (turn_makes small stands))
        where
          by : (next : Next) → Makes (step_state s x) (used + length (step_bytes x)) (step_bytes x) (step_values x) next → After old (literals_then old used x next) (turned s used x next) (turned s used x next).next
          by On (f, m, l, z) = (f, m, l, ap (λ (bs : List ℕ). used + length bs) z ∙ add-zero used, ap (sets old used) z)
          by (Listed e) (f, m, l, z, k) = (f, m, l, z, k, refl, refl)
          by (Over e) l = (l, refl)
