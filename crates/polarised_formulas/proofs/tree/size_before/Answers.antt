use Rattle.std.proofs.Common.{arith}
use Rattle.polarised_formulas.proofs.AtFacts.{front_le}
use Rattle.polarised_formulas.proofs.tree.size_before.Goals as goal

pub overflow_add-result : goal.overflow_add-result
overflow_add-result c = omega (arith, front_le c.args.later.now c.arity_of_node.result)
