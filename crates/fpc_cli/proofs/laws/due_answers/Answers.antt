use Rattle.fpc_cli.proofs.OneAnswer.{answer-is-due}
use Rattle.fpc_cli.proofs.laws.due_answers.Goals as goal

pub returns : goal.returns
returns c = answer-is-due c.numbers.ensures c.one_solution.ensures c.one_outcome.ensures
