use Rattle.fpc_cli.proofs.OneAnswer.{one-answer}
use Rattle.fpc_cli.proofs.laws.one_answer.Goals as goal

pub returns : goal.returns
returns c = one-answer c.numbers.ensures c.one_solution.ensures c.one_outcome.ensures
