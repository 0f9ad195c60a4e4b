-- A stretch of white space is that many steps that note nothing: the reading of a script from behind it is the reading from before it. Assumes nothing.
use Prim.Native.Nat.{ℕ, ◌-◌, ◌≤◌}
use native.Mathlib.Omega.{arith}
use mathlib.Core.Bool.{Bool, true, false}
use mathlib.Core.List.{List}
use mathlib.Core.Path.{◌≡◌, refl, sym, ap, ◌∙◌}
use lib.ListN.{length}
use Rattle.basis.specs.Pick.{pick}
use Rattle.chars.specs.declared.cursor.Cursor.{Cursor}
use Rattle.find.specs.Find.{find_of}
use Rattle.find.specs.Skip.{skip_of}
use Rattle.find.specs.declared.Found.TheVariants.{White}
use Rattle.find.proofs.Ahead as Finds
use Rattle.find.proofs.Ahead.{find_ahead}
use Rattle.find.proofs.Skips.{skipped_by}
use Rattle.script.specs.Rules.{Rules}
use Rattle.script.specs.declared.State.{State}
use Rattle.script.specs.declared.Crossed.{Crossed}
use Rattle.script.specs.declared.Crossed.TheVariants.{Plain, Piece, Token}
use Rattle.script.specs.States.{state, moved_to, interpolating, count, with_braces, resumed, opened, closed, behind, behind_of, Fine, Fits}
use Rattle.script.specs.Steps.{on, nothing, step_of}
use Rattle.script.specs.Script.{script_from}
use Rattle.script.specs.Skips.{skipped}
use Rattle.script.proofs.Onward.{reading_on}

module _ (rules : Rules) (t book : List ℕ) (s : State) where
  -- ---- one white character is one step that notes nothing
  module _ (c to : Cursor) (e : find_of rules.white t book c ≡ White to) where
    further : Finds.Further t c.at to
    further = rw e at (find_ahead rules.white t book c)

    white_step : step_of rules t book (moved_to c s) ≡ on nothing (moved_to to s)
    unfolding step_of moved_to
    white_step = rw e

    white_reads : script_from rules t book (moved_to c s) ≡ script_from rules t book (moved_to to s)
    unfolding moved_to
    white_reads = reading_on rules t book (moved_to c s) white_step further.0 further.1

  -- ---- and so are many
  -- behind some of it: further on or not, within the script, and what is read from here is what is read from the start
  abbrev Behind : Cursor → Type 0
  Behind c = (s.cursor.at ≤ c.at) × (s.cursor.at ≤ length t → c.at ≤ length t) × (script_from rules t book (moved_to s.cursor s) ≡ script_from rules t book (moved_to c s))

  one_more : (c to : Cursor) → find_of rules.white t book c ≡ White to → Behind c → Behind to
  one_more c to e (a, b, r) = let f = further c to e in (omega (arith, f.0), λ h. f.1, r ∙ white_reads c to e)

  behind_all_lem : Behind (skip_of rules.white t s.cursor)
  unfolding skip_of
  behind_all_lem = skipped_by rules.white t book Behind one_more (length t - s.cursor.at) s.cursor (omega arith, λ h. h, refl)

  -- ---- where the run stands then
  stays : s.due ≡ false → moved_to s.cursor s ≡ s
  unfolding moved_to
  stays n = ap (λ (d : Bool). state s.cursor s.level s.braces d) (sym n)

  fine_further : Fine s → (c : Cursor) → s.cursor.at ≤ c.at → c.at ≤ 16777216 → Fine (moved_to c s)
  unfolding moved_to
  fine_further fine c h l = record { deep = fine.deep; few = λ j. omega (arith, fine.few j); short = l }

  -- what skipping keeps
  pub record Skips (r : State) : Type 0 where
    pub forward : s.cursor.at ≤ r.cursor.at
    pub within : s.cursor.at ≤ length t → r.cursor.at ≤ length t
    pub fine : s.cursor.at ≤ length t → length t ≤ 16777216 → Fine s → Fine r
    pub reads : script_from rules t book s ≡ script_from rules t book r

  moved : s.due ≡ false → Behind (skip_of rules.white t s.cursor) → Skips (moved_to (skip_of rules.white t s.cursor) s)
  unfolding moved_to
  moved n (a, b, r) = record {
    forward = a;
    within = b;
    fine = λ h l f. let i = b h in fine_further f (skip_of rules.white t s.cursor) a (omega arith);
    reads = ap (script_from rules t book) (sym (stays n)) ∙ r;
  }

  pub skips : Skips (skipped rules t s)
  unfolding skipped
  skips = by s.due refl
    where
      by : (d : Bool) → s.due ≡ d → Skips (pick d s (moved_to (skip_of rules.white t s.cursor) s))
      by true y = record { forward = omega arith; within = λ h. h; fine = λ h l f. f; reads = refl }
      by false n = moved n behind_all_lem

-- ---- what a run passes behind white space is passed as from before it
module _ (rules : Rules) (t : List ℕ) (s : State) where
  pub skipped_due : s.due ≡ true → skipped rules t s ≡ s
  unfolding skipped
  skipped_due y = rw y

  pub skipped_on : s.due ≡ false → skipped rules t s ≡ state (skip_of rules.white t s.cursor) s.level s.braces false
  unfolding skipped moved_to
  skipped_on n = rw n

  pub skipped_moved : (to : Cursor) → moved_to to (skipped rules t s) ≡ state to s.level s.braces false
  unfolding skipped moved_to
  skipped_moved to = by s.due
    where
      by : (d : Bool) → moved_to to (pick d s (moved_to (skip_of rules.white t s.cursor) s)) ≡ state to s.level s.braces false
      by true = refl
      by false = refl

  pub skipped_behind : (what : Crossed) (to : Cursor) → behind_of what to (skipped rules t s) ≡ behind_of what to s
  unfolding skipped moved_to interpolating count with_braces resumed opened closed behind behind_of
  skipped_behind what to = by s.due what
    where
      by : (d : Bool) (what : Crossed) → behind_of what to (pick d s (moved_to (skip_of rules.white t s.cursor) s)) ≡ behind_of what to s
      by true what = refl
      by false Plain = refl
      by false Piece = refl
      by false (Token w) = refl

  pub skipped_fits : (what : Crossed) → Fits what (skipped rules t s) → Fits what s
  unfolding skipped moved_to
  skipped_fits what = by s.due what
    where
      by : (d : Bool) (what : Crossed) → Fits what (pick d s (moved_to (skip_of rules.white t s.cursor) s)) → Fits what s
      by true what f = f
      by false Plain f = f
      by false Piece f = f
      by false (Token w) f = f
