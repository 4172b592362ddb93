use Rattle.polarised_formulas.proofs.PlainNamed.{plain_term_is_named, plain_formula_is_named}
use Rattle.polarised_formulas.proofs.Growth.{plain_grows, plain_term_grows}
use Rattle.polarised_formulas.proofs.plain.laws.laws_of_what_is_read.Goals as goal

pub returns-clause-grown_term : goal.returns-clause-grown_term
returns-clause-grown_term c = plain_term_grows

pub returns-clause-grown_formula : goal.returns-clause-grown_formula
returns-clause-grown_formula c = plain_grows

pub returns-clause-named_term : goal.returns-clause-named_term
returns-clause-named_term c = plain_term_is_named

pub returns-clause-named_formula : goal.returns-clause-named_formula
returns-clause-named_formula c = plain_formula_is_named
