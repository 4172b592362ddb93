use Rattle.fpc_cli.proofs.Budgets.{budget-is-decimal}
use Rattle.fpc_cli.proofs.laws.budgets.Goals as goal

pub returns : goal.returns
returns c = budget-is-decimal
