use Rattle.std.proofs.Common.{ℕ, ◌<◌, slice_index_or}
use Rattle.polarised_formulas.specs.declared.node.Node.{Node}
use Rattle.polarised_formulas.specs.Size.{IsFewNode}
use Rattle.polarised_formulas.proofs.arity.few_nodes.Given as goal

abbrev pub invariant-loop-node : goal.invariant-loop-node
invariant-loop-node l = (k : ℕ) (d : Node) → k < l.node-index → IsFewNode (slice_index_or l.nodes k d)
