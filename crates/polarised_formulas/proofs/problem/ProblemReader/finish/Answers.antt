use Rattle.std.proofs.Common.{[]}
use Rattle.polarised_formulas.proofs.ProblemFacts.{goal-of}
use Rattle.polarised_formulas.proofs.problem.ProblemReader.finish.Goals as goal

pub returns-in-Ok-Some-clause-ok : goal.returns-in-Ok-Some-clause-ok
returns-in-Ok-Some-clause-ok c = λ names s h.
    goal-of names s c.args.self c.in-Finished.logic c.in-Ok-Some.goal h c.in-Finished.is
    (λ number logic u w k e. (let i = rw c.in-Ok-Some.field-0-is at (c.in-Ok-Some.ensures.whole number logic [] u w k e) in cc))
