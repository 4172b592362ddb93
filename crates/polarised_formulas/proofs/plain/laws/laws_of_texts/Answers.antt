use Rattle.polarised_formulas.proofs.Texts.{on_begins, term_is_read, formula_is_read}
use Rattle.polarised_formulas.proofs.plain.laws.laws_of_texts.Goals as goal

pub returns-clause-begins : goal.returns-clause-begins
returns-clause-begins c = on_begins

pub returns-clause-term : goal.returns-clause-term
returns-clause-term c = term_is_read

pub returns-clause-formula : goal.returns-clause-formula
returns-clause-formula c = formula_is_read
