use Rattle.polarised_formulas.proofs.Begins.{going_begins, term_is_whole, formula_is_whole}
use Rattle.polarised_formulas.proofs.plain.laws.laws_of_lines.Goals as goal

pub returns-clause-begins : goal.returns-clause-begins
returns-clause-begins c = going_begins

pub returns-clause-whole_term : goal.returns-clause-whole_term
returns-clause-whole_term c = term_is_whole

pub returns-clause-whole_formula : goal.returns-clause-whole_formula
returns-clause-whole_formula c = formula_is_whole
