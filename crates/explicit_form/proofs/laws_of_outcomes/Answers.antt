use Rattle.explicit_form.proofs.Outcomes.{certificate_outcome}
use Rattle.explicit_form.proofs.Refusals.{refusal_is_told}
use Rattle.explicit_form.proofs.laws_of_outcomes.Goals as goal

pub returns-clause-steps : goal.returns-clause-steps
returns-clause-steps c = certificate_outcome

pub returns-clause-refusal : goal.returns-clause-refusal
returns-clause-refusal c = refusal_is_told
