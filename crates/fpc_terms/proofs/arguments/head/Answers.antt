use Rattle.std.proofs.Common.{arith}
use Rattle.fpc_terms.proofs.ArgumentFacts.{holds_arguments}
use Rattle.fpc_terms.proofs.arguments.head.Goals as goal

pub bounds-cells-0 : goal.bounds-cells-0
bounds-cells-0 c = rw c.cells.ensures (omega (arith, (holds_arguments c.args.term.now).some))
