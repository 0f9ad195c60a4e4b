-- What a run will have left, said at each turn: the memory so far, with what is left of the script put behind it. For any way to lay an entry out. Assumes nothing.
use Prim.Native.Nat.{ℕ, suc, ◌+◌, ◌≤◌, ◌<◌}
use native.Mathlib.Omega.{arith}
use native.Mathlib.Nat.{add-zero, add_assoc}
use mathlib.Core.Bool.{false}
use mathlib.Core.List.{List}
use mathlib.Core.Path.{◌≡◌, sym, ap, subst, ◌∙◌}
use lib.ListN.{length, length-append}
use lib.Seq.{sets, length-sets}
use Rattle.basis.proofs.Stores.{sets_append}
use Rattle.reading.specs.Reading.{Kept, Left, entries, literal_bytes, nothing_more, more}
use Rattle.reading.specs.CutRun.{cut_run}
use Rattle.reading.specs.declared.Bounds.{Bounds}
use Rattle.entry.specs.Entries.{laid_out}
use Rattle.entry.specs.declared.Entry.{Entry}
use Rattle.reading.specs.Endings.{Ending}
use Rattle.script.specs.Rules.{Rules}
use Rattle.script.specs.Steps.{Step, step_of}
use Rattle.script.specs.declared.State.{State}
use Rattle.script.specs.declared.Crossed.{Crossed}
use Rattle.script.specs.States.{state, moved_to, behind_of, Fine, Fits}
use Rattle.script.specs.Counts.{passed_of}
use Rattle.script.specs.Skips.{skipped}
use Rattle.script.proofs.Skips.{skips, skipped_moved, skipped_behind, skipped_fits}
use Rattle.turn.specs.Turns.{Went, went, step_bytes, led_by, led, Turns}
use Rattle.turn.proofs.Cuts.{step_values}
use Rattle.turn.specs.declared.Next.{Next}
use Rattle.turn.specs.declared.Next.TheVariants.{On, Listed, Over}
use Rattle.turn.specs.declared.Turned.{Turned}
use Rattle.turn.proofs.Makes.{Stands, Small, left, After, turn_after}

-- how it ended, how many entries and literal bytes there are then, and what the memory holds
pub record Finished : Type 0 where
  pub ending : Ending
  pub listed : ℕ
  pub used : ℕ
  pub entries : List ℕ
  pub literals : List ℕ

-- where the n-th entry stands, and how it is laid out there
module _ (index : ℕ → ℕ) (laid : Entry → List ℕ) where
  -- with n entries listed and so many literal bytes used, and l left
  unfoldable pub finish : List ℕ → List ℕ → ℕ → ℕ → Left → Finished
  finish es ls n used l = record {
    ending = l.ending;
    listed = n + length (entries l.tokens);
    used = used + length (literal_bytes l.tokens);
    entries = sets es (index n) (laid_out laid (entries l.tokens));
    literals = sets ls used (literal_bytes l.tokens);
  }

  -- nothing is left
  pub finish_over : (es ls : List ℕ) (n used : ℕ) (e : Ending) → finish es ls n used (nothing_more e) ≡ record { ending = e; listed = n; used = used; entries = es; literals = ls }
  unfolding finish laid_out entries literal_bytes
  finish_over es ls n used e = rw (add-zero n, add-zero used)

  -- a token more
  pub finish_more : (es ls : List ℕ) (n used : ℕ) (k : Kept) (l : Left) → index n + length (laid k.entry) ≡ index (n + 1)
      → finish es ls n used (more k l) ≡ finish (sets es (index n) (laid k.entry)) (sets ls used k.bytes) (n + 1) (used + length k.bytes) l
  unfolding finish laid_out entries literal_bytes
  finish_more es ls n used k l h =
      rw (
        sets_append es (index n) (laid k.entry) (laid_out laid (entries l.tokens)),
        sets_append ls used k.bytes (literal_bytes l.tokens),
        h,
        length-append k.bytes (literal_bytes l.tokens),
        sym (add_assoc used (length k.bytes) (length (literal_bytes l.tokens))),
        next_count,
      )
    where
      next_count : n + suc (length (entries l.tokens)) ≡ n + 1 + length (entries l.tokens)
      next_count = omega arith

module _ (index : ℕ → ℕ) (laid : Entry → List ℕ) (rules : Rules) (t book : List ℕ) (b : Bounds) where
  -- between two turns: the run stands well, the memory is as long as it was, and what it will have left is what it would have left from the start
  pub record Running (es₀ ls₀ : List ℕ) (s₀ : State) (s : State) (n used : ℕ) (es ls : List ℕ) : Type 0 where
    pub stands : Stands t b s n used
    pub room : length ls ≡ b.literals
    pub entries : length es ≡ length es₀
    pub same : finish index laid es ls n used (left rules t book b s n used) ≡ finish index laid es₀ ls₀ 0 0 (left rules t book b s₀ 0 0)

  -- behind the white space that is skipped a run stands as well, and nothing else is left
  skipped_stands : length t ≤ 16777216 → {s : State} {n used : ℕ} → Stands t b s n used → Stands t b (skipped rules t s) n used
  skipped_stands small {s} stands =
      let k = skips rules t book s in record {
        fine = k.fine stands.within small stands.fine;
        within = k.within stands.within;
        room = stands.room;
        few = omega (arith, k.forward, stands.few);
        short = omega (arith, k.forward, stands.short);
        free = stands.free;
      }

  -- what is known behind a turn that leads there, from behind the white space
  abbrev AfterTurn : State → ℕ → ℕ → List ℕ → List ℕ → Went → Type 0
  AfterTurn s n used ls ls' w = After rules t book b (skipped rules t s) n used ls ls' w w.next

  module _ (small : length t ≤ 16777216) {es₀ ls₀ : List ℕ} {s₀ s : State} {n used : ℕ} {es ls : List ℕ} (run : Running es₀ ls₀ s₀ s n used es ls) (r : Turned) {ls' : List ℕ}
      (told : Turns b n used (skipped rules t s) (step_of rules t book (skipped rules t s)) r ls ls') where
    after : AfterTurn s n used ls ls' (led (skipped rules t s) r)
    after = turn_after rules t book b (skipped rules t s) n used small (skipped_stands small run.stands) ls (led (skipped rules t s) r) ls' told.leads.0 told.literals

    -- by what the turn came to
    after_next : {next : Next} → r.next ≡ next → AfterTurn s n used ls ls' (led_by (skipped rules t s) (passed_of r.piece r.token) r.to r.used next)
    after_next q = subst (AfterTurn s n used ls ls') (ap (led_by (skipped rules t s) (passed_of r.piece r.token) r.to r.used) q) after

    -- what is left here is left behind the white space
    left_skipped : left rules t book b s n used ≡ left rules t book b (skipped rules t s) n used
    left_skipped = ap (cut_run b n used) (skips rules t book s).reads

    -- the state's own method may be called
    pub run_fine : {what : Crossed} → what ≡ passed_of r.piece r.token → Fine s × Fits what s
    run_fine d = (run.stands.fine, rw d (skipped_fits rules t s (passed_of r.piece r.token) told.leads.1))

    -- a turn that lists nothing
    pub run_on : r.next ≡ On → (s.cursor.at < r.to.at) × Running es₀ ls₀ s₀ (state r.to s.level s.braces false) n used es ls'
    run_on q = rw (skipped_moved rules t s r.to) at (on (after_next q))
      where
        on : After rules t book b (skipped rules t s) n used ls ls' (went (moved_to r.to (skipped rules t s)) r.used On) On → (s.cursor.at < (moved_to r.to (skipped rules t s)).cursor.at) × Running es₀ ls₀ s₀ (moved_to r.to (skipped rules t s)) n used es ls'
        on (f, m, l, u, k) = (
          omega (arith, f, (skips rules t book s).forward),
          record {
            stands = rw u at m;
            room = rw k run.room;
            entries = run.entries;
            same = ap (finish index laid es ls' n used) (sym (left_skipped ∙ l ∙ ap (left rules t book b (moved_to r.to (skipped rules t s)) n) u)) ∙ rw k run.same;
          },
        )

    -- a turn that lists an entry, which is laid out behind those before
    pub run_listed : (e : Entry) → r.next ≡ Listed e → Small e × (n < b.entries)
    run_listed e q = let a = after_next q in (a.3, a.4)

    pub run_more : (e : Entry) → r.next ≡ Listed e → index n + length (laid e) ≡ index (n + 1) → (es' : List ℕ) → es' ≡ sets es (index n) (laid e) → (what : Crossed) → what ≡ passed_of r.piece r.token → (s' : State) → s' ≡ behind_of what r.to s
        → (s.cursor.at < s'.cursor.at) × Running es₀ ls₀ s₀ s' (n + 1) r.used es' ls'
    run_more e q h es' p what g s' d = rw (d, g, ← skipped_behind rules t s (passed_of r.piece r.token) r.to) (more_so (after_next q))
      where
        step : Step
        step = step_of rules t book (skipped rules t s)

        bs : List ℕ
        bs = step_bytes step

        next : State
        next = behind_of (passed_of r.piece r.token) r.to (skipped rules t s)

        stored : r.used ≡ used + length bs → ls' ≡ sets ls used bs → (l : Left)
            → finish index laid es' ls' (n + 1) r.used l ≡ finish index laid (sets es (index n) (laid e)) (sets ls used bs) (n + 1) (used + length bs) l
        stored u k l = rw (p, k, u)

        more_so : After rules t book b (skipped rules t s) n used ls ls' (went next r.used (Listed e)) (Listed e) → (s.cursor.at < next.cursor.at) × Running es₀ ls₀ s₀ next (n + 1) r.used es' ls'
        more_so (f, m, l, z, g, u, k) = (
          omega (arith, f, (skips rules t book s).forward),
          record {
            stands = m;
            room = rw (k, length-sets ls used bs) run.room;
            entries = rw (p, length-sets es (index n) (laid e)) run.entries;
            same = stored u k (left rules t book b next (n + 1) r.used) ∙ sym (finish_more index laid es ls n used (record { entry = e; bytes = bs; values = step_values step }) _ h) ∙ ap (finish index laid es ls n used) (sym (left_skipped ∙ l)) ∙ run.same;
          },
        )

    -- a turn that is over
    pub run_over : (e : Ending) → r.next ≡ Over e
        → record { ending = e; listed = n; used = used; entries = es; literals = ls' } ≡ finish index laid es₀ ls₀ 0 0 (left rules t book b s₀ 0 0)
    run_over e q =
        let a = after_next q in
        sym (rw a.1 (finish_over index laid es ls n used e)) ∙ ap (finish index laid es ls n used) (sym (left_skipped ∙ a.0)) ∙ run.same
