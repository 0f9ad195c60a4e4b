-- The theorem StepByStep of specs/Script.antt: every step leads further and stays within the script. Assumes nothing.
use mathlib.Core.Path.{◌≡◌, refl}
use Rattle.script.specs.Steps.{Step, on, last, step_of}
use Rattle.script.specs.Script.{on_step, script_from, StepByStep}
use Rattle.script.proofs.Onward.{reading_over, reading_on}
use Rattle.script.proofs.Ahead.{Ahead, step_ahead}

pub step_by_step : StepByStep
step_by_step rules t book s fine small within = by (step_of rules t book s) refl (step_ahead rules t book s fine small within)
  where
    by : (x : Step) → step_of rules t book s ≡ x → Ahead t s x → script_from rules t book s ≡ on_step x (λ s'. script_from rules t book s')
    by (last r) q a = reading_over rules t book s q
    by (on n s') q (f, l, g, k) = reading_on rules t book s q f l
