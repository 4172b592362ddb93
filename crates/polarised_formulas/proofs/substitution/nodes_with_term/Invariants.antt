use Rattle.std.proofs.Common.{◌≡◌, take}
use Rattle.std.specs.List.{flat_map}
use Rattle.fpc_terms.specs.Open.{at_one}
use Rattle.polarised_formulas.specs.NodePut.{node_put}
use Rattle.polarised_formulas.proofs.substitution.nodes_with_term.Given as goal

abbrev pub invariant-loop-node : goal.invariant-loop-node
invariant-loop-node l = l.new.items ≡ flat_map (node_put (at_one l.variable l.by)) (take l.node-index l.nodes)
