-- Laws of the plain form that the search finds; those that say `↔` are answered by name.
use Rattle.polarised_formulas.proofs.Begins.{term_is_one, formula_is_one}
use Rattle.polarised_formulas.proofs.LineEnds.{line_ends}
use Rattle.polarised_formulas.proofs.Renaming.{line_by_other}
use Rattle.polarised_formulas.proofs.Proper.{plain_term_is_proper, plain_formula_is_proper}
use Rattle.polarised_formulas.proofs.Numberings.{Agrees-number_in, GivesBack-number_in}

pub ruleset laws = (term_is_one, formula_is_one, line_ends, line_by_other, plain_term_is_proper, plain_formula_is_proper, Agrees-number_in, GivesBack-number_in)
