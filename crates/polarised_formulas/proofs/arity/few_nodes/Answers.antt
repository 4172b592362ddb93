use Rattle.std.proofs.Common.{arith}
use Rattle.polarised_formulas.specs.Size.{IsFewNode}
use Rattle.polarised_formulas.proofs.ArityFacts.{one_more}
use Rattle.polarised_formulas.proofs.arity.few_nodes.Goals as goal

pub loop-node-preserved : goal.loop-node-preserved
loop-node-preserved c = one_more IsFewNode c.args.nodes.now c.loop-node.node-index c.node-item.result (omega arith) c.node-item.is c.few_node.ensures c.loop-node.invariant

pub returns : goal.returns
returns c k d l = c.loop-node.invariant k d (omega arith)
