use Rattle.std.proofs.Common.{◌≡◌, take, map}
use Rattle.fpc_terms.specs.Open.{at_one}
use Rattle.polarised_formulas.specs.OpenFormula.{put_step}
use Rattle.polarised_formulas.proofs.step_substitution.steps_with_term.Given as goal

abbrev pub invariant-loop-step : goal.invariant-loop-step
invariant-loop-step l = l.found.items ≡ map (put_step (at_one l.variable l.by)) (take l.step-index l.steps)
