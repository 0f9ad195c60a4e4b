-- The theorems OursMeet and NoOther of specs/Limits.antt. Assumes nothing.
use mathlib.Core.Logic.{◌⊎◌, inl, inr}
use mathlib.Core.Path.{◌≡◌, sym, ◌∙◌}
use Rattle.reading.specs.Reading.{Reading}
use Rattle.reading.specs.CutRun.{cut_run}
use Rattle.reading.specs.declared.Bounds.{Bounds}
use Rattle.reading.specs.Limits.{Fair}
use Rattle.reading.proofs.Limits.{lists_the_first, repeats, recurs, stops_there, whole_else, only_there, first_decided}
use Rattle.script.specs.Rules.{document01}
use Rattle.run.specs.Run.{run_reading, run_of}
use Rattle.run.proofs.Fair.{reading_fair}
use Rattle.promises.specs.Limits.{Run, FirstThatPasses, LimitsOnlyCut, OursMeet, NoOther}

-- what the bounds leave of a fair reading meets the demand
module _ (r : Reading) (fair : Fair r) where
  cut_meets : LimitsOnlyCut r (λ b. cut_run b 0 0 r)
  cut_meets = record {
    lists = λ b. lists_the_first b r;
    stops = λ b x. stops_there b r fair x;
    only_there = λ b f h z. only_there b r f fair h z;
    else_all = λ b never. whole_else b r never;
    repeats = λ b c w. repeats b c r w;
    recurs = λ b c w own. recurs b c r fair w own;
  }

  -- and nothing else does: a token passes, or none
  only_cut : (run : Run) → LimitsOnlyCut r run → (b : Bounds) → run b ≡ cut_run b 0 0 r
  only_cut run demand b = by (first_decided b r)
    where
      by : FirstThatPasses b r ⊎ (FirstThatPasses b r → ⊥) → run b ≡ cut_run b 0 0 r
      by (inl x) = demand.stops b x ∙ sym (cut_meets.stops b x)
      by (inr never) = demand.else_all b never ∙ sym (cut_meets.else_all b never)

pub ours_meet : OursMeet
unfolding run_of
ours_meet script book = cut_meets (run_reading document01 script book) (reading_fair document01 script book)

pub no_other : NoOther
unfolding run_of
no_other script book run demand b = only_cut (run_reading document01 script book) (reading_fair document01 script book) run demand b
