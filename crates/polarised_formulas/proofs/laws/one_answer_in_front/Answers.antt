use Rattle.fpc_base.proofs.Places.{items_left-within, front-within}
use Rattle.polarised_formulas.specs.Written.{IsFormula}
use Rattle.polarised_formulas.specs.Place.{FormulaLimits}
use Rattle.polarised_formulas.proofs.FormulaReading.{formula-read_once, formula-refused_once, formula-not_both}
use Rattle.polarised_formulas.proofs.laws.one_answer_in_front.Goals as goal

pub returns-clause-read : goal.returns-clause-read
returns-clause-read c = formula-read_once

pub returns-clause-refused : goal.returns-clause-refused
returns-clause-refused c = formula-refused_once

pub returns-clause-both : goal.returns-clause-both
returns-clause-both c = formula-not_both

pub returns-clause-within : goal.returns-clause-within
returns-clause-within c = λ logic parameters tokens r h.
    front-within (IsFormula logic parameters) (FormulaLimits logic parameters) h (items_left-within tokens)
