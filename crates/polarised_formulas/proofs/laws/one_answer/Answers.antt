use Rattle.fpc_base.proofs.Places.{items_of-within, all-within}
use Rattle.polarised_formulas.specs.Written.{IsProblem}
use Rattle.polarised_formulas.specs.Place.{ProblemLimits}
use Rattle.polarised_formulas.proofs.ProblemReading.{problem-read_once, problem-refused_once, problem-not_both}
use Rattle.polarised_formulas.proofs.laws.one_answer.Goals as goal

pub returns-clause-read : goal.returns-clause-read
returns-clause-read c = problem-read_once

pub returns-clause-refused : goal.returns-clause-refused
returns-clause-refused c = problem-refused_once

pub returns-clause-both : goal.returns-clause-both
returns-clause-both c = problem-not_both

pub returns-clause-within : goal.returns-clause-within
returns-clause-within c = λ bytes r h. all-within IsProblem ProblemLimits h (items_of-within bytes)
