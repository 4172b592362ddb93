use Rattle.search_model.proofs.SolveAnswer.{solving-settled}
use Rattle.search_model.proofs.laws.outcome_is_settled.Goals as goal

pub returns : goal.returns
returns c = λ clauses a variables budget units answer e. let s = solving-settled clauses a variables budget units answer e in (s.same, s.below)
