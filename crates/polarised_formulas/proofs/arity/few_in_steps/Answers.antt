use Rattle.std.proofs.Common.{arith}
use Rattle.polarised_formulas.specs.Size.{HasFewInStep}
use Rattle.polarised_formulas.proofs.ArityFacts.{one_more}
use Rattle.polarised_formulas.proofs.arity.few_in_steps.Goals as goal

pub loop-step-preserved : goal.loop-step-preserved
loop-step-preserved c = one_more HasFewInStep c.args.steps.now c.loop-step.step-index c.step-item.result (omega arith) c.step-item.is c.few_in_step.ensures c.loop-step.invariant

pub returns : goal.returns
returns c k d l = c.loop-step.invariant k d (omega arith)
