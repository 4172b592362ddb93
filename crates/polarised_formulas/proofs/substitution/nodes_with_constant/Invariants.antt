use Rattle.std.proofs.Common.{◌≡◌, take}
use Rattle.std.specs.List.{flat_map}
use Rattle.fpc_terms.specs.Open.{constant}
use Rattle.polarised_formulas.specs.NodePut.{node_put}
use Rattle.polarised_formulas.proofs.substitution.nodes_with_constant.Given as goal

abbrev pub invariant-loop-node : goal.invariant-loop-node
invariant-loop-node l = l.new.items ≡ flat_map (node_put (constant l.name)) (take l.node-index l.nodes)
