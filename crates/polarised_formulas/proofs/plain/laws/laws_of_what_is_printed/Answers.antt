use Rattle.polarised_formulas.proofs.Printing.{term_is_plain, formula_is_plain, term_is_read_back, formula_is_read_back}
use Rattle.polarised_formulas.proofs.plain.laws.laws_of_what_is_printed.Goals as goal

pub returns-clause-plain_term : goal.returns-clause-plain_term
returns-clause-plain_term c = term_is_plain

pub returns-clause-plain_formula : goal.returns-clause-plain_formula
returns-clause-plain_formula c = formula_is_plain

pub returns-clause-term : goal.returns-clause-term
returns-clause-term c = term_is_read_back

pub returns-clause-formula : goal.returns-clause-formula
returns-clause-formula c = formula_is_read_back
