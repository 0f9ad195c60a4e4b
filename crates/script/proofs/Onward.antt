-- A script's reading, step by step: a step that goes on, further into the script, leads to the reading from where it stands then. Assumes nothing.
use Prim.Native.Nat.{ℕ, zero, suc, ◌+◌, ◌-◌, ◌≤◌, ◌<◌}
use native.Mathlib.Omega.{arith}
use mathlib.Core.List.{List, [], ◌∷◌}
use mathlib.Core.Path.{◌≡◌, refl, ap, ◌∙◌}
use lib.ListN.{length, drop, length-drop}
use lib.Seq.{drop-cons, drop-drop}
use Rattle.reading.specs.Reading.{Reading}
use Rattle.script.specs.Rules.{Rules}
use Rattle.script.specs.declared.State.{State}
use Rattle.script.specs.Steps.{on, last, Note, noted, step_of}
use Rattle.script.specs.Script.{reading_from, script_from}

module _ (rules : Rules) (t book : List ℕ) where
  -- to pass k bytes is to start again behind them
  passed : (k : ℕ) (bs : List ℕ) (s : State) → k ≤ length bs → reading_from rules t book k bs s ≡ reading_from rules t book 0 (drop k bs) s
  unfolding reading_from
  passed zero bs s h = refl
  passed (suc k) [] s h = absurd (omega arith)
  passed (suc k) (b ∷ bs) s h = passed k bs s (omega arith)

  module _ (s : State) where
    pub reading_over : {r : Reading} → step_of rules t book s ≡ last r → script_from rules t book s ≡ r
    unfolding script_from reading_from
    reading_over {r} e = by (drop s.cursor.at t)
      where
        by : (bs : List ℕ) → reading_from rules t book 0 bs s ≡ r
        by [] = rw e
        by (b ∷ bs) = rw e

    module _ {n : Note} {next : State} (e : step_of rules t book s ≡ on n next) (forward : s.cursor.at < next.cursor.at) (within : next.cursor.at ≤ length t) where
      abbrev at : ℕ
      at = s.cursor.at

      abbrev k : ℕ
      k = next.cursor.at - suc at

      one_step : reading_from rules t book 0 (drop at t) s ≡ noted n (reading_from rules t book k (drop (suc at) t) next)
      unfolding reading_from
      one_step = rw (drop-cons t at 0 (omega arith), e)

      behind_it : drop k (drop (suc at) t) ≡ drop next.cursor.at t
      behind_it = drop-drop k (suc at) t ∙ ap (λ (i : ℕ). drop i t) (let h : suc at + k ≡ next.cursor.at = omega arith in h)

      pub reading_on : script_from rules t book s ≡ noted n (script_from rules t book next)
      unfolding script_from
      reading_on = one_step ∙ ap (noted n) (passed k (drop (suc at) t) next (omega (arith, left_over)) ∙ ap (λ (bs : List ℕ). reading_from rules t book 0 bs next) behind_it)
        where
          left_over : k ≤ length (drop (suc at) t)
          left_over = rw (length-drop (suc at) t) (omega arith)
