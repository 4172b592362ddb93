use Rattle.std.proofs.Common.{◌≡◌, take, map}
use Rattle.fpc_terms.specs.Open.{constant}
use Rattle.polarised_formulas.specs.OpenFormula.{put_step}
use Rattle.search_model.proofs.plain.trace_of.Given as goal

abbrev pub invariant-loop-step : goal.invariant-loop-step
invariant-loop-step l = l.list ≡ map (put_step (constant l.any)) (take l.step-index l.steps)
