use Rattle.std.proofs.Common.{refl, []}
use Rattle.polarised_formulas.proofs.problem.ProblemReader.new.Goals as goal

pub returns : goal.returns
returns c = λ names. (refl, λ number a. c.new.ensures number [])
