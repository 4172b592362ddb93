use Rattle.std.proofs.Common.{ℕ, ◌<◌, slice_index_or}
use Rattle.polarised_formulas.specs.declared.step.Step.{Step}
use Rattle.polarised_formulas.specs.Size.{HasFewInStep}
use Rattle.polarised_formulas.proofs.arity.few_in_steps.Given as goal

abbrev pub invariant-loop-step : goal.invariant-loop-step
invariant-loop-step l = (k : ℕ) (d : Step) → k < l.step-index → HasFewInStep (slice_index_or l.steps k d)
