use Rattle.polarised_formulas.proofs.TableOutcomes.{term_has_outcome, formula_has_outcome}
use Rattle.polarised_formulas.proofs.Refusals.{refusal_is_told}
use Rattle.polarised_formulas.proofs.plain.laws.laws_of_outcomes.Goals as goal

pub returns-clause-term : goal.returns-clause-term
returns-clause-term c = term_has_outcome

pub returns-clause-formula : goal.returns-clause-formula
returns-clause-formula c = formula_has_outcome

pub returns-clause-refusal : goal.returns-clause-refusal
returns-clause-refusal c = refusal_is_told
