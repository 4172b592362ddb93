-- What the nodes of a formula are like.
use Rattle.std.proofs.Common.{◌≡◌, ◌<◌, length, get_or, refl, arith}
use Rattle.polarised_formulas.specs.declared.node.Node.{Node}
use Rattle.polarised_formulas.specs.Formula.{Formula, truth, falsity, atom, conj, disj, implies, for_all, exists, nodes_of, root_node, polarity_of}
use Rattle.polarised_formulas.specs.Nodes.{node_polarity}

pub nodes_of-not_empty : (f : Formula) → 0 < length (nodes_of f)
nodes_of-not_empty (truth p) = omega arith
nodes_of-not_empty (falsity p) = omega arith
nodes_of-not_empty (atom positive name ts) = omega arith
nodes_of-not_empty (conj p a b) = omega arith
nodes_of-not_empty (disj p a b) = omega arith
nodes_of-not_empty (implies a b) = omega arith
nodes_of-not_empty (for_all a) = omega arith
nodes_of-not_empty (exists a) = omega arith

pub first-nodes_of : (f : Formula) (d : Node) → get_or (nodes_of f) 0 d ≡ root_node f
first-nodes_of (truth p) d = refl
first-nodes_of (falsity p) d = refl
first-nodes_of (atom positive name ts) d = refl
first-nodes_of (conj p a b) d = refl
first-nodes_of (disj p a b) d = refl
first-nodes_of (implies a b) d = refl
first-nodes_of (for_all a) d = refl
first-nodes_of (exists a) d = refl

pub polarity-root_node : (f : Formula) → node_polarity (root_node f) ≡ polarity_of f
polarity-root_node (truth p) = refl
polarity-root_node (falsity p) = refl
polarity-root_node (atom positive name ts) = refl
polarity-root_node (conj p a b) = refl
polarity-root_node (disj p a b) = refl
polarity-root_node (implies a b) = refl
polarity-root_node (for_all a) = refl
polarity-root_node (exists a) = refl

pub ruleset first_node_facts = (nodes_of-not_empty, first-nodes_of, polarity-root_node)
