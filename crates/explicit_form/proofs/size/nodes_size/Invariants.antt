use Rattle.std.proofs.Common.{◌≡◌, ◌≤◌, ◌+◌, drop, length}
use Rattle.fpc_terms.specs.Text.{name_in}
use Rattle.polarised_formulas.specs.Printing.{AreNodesNamedBelow}
use Rattle.explicit_form.specs.Sizes.{counted, nodes_size}
use Rattle.explicit_form.proofs.size.nodes_size.Given as goal

abbrev pub invariant-loop-node : goal.invariant-loop-node
invariant-loop-node l = record {
  size : counted (l.size + nodes_size (name_in l.names) l.logic (drop l.node-index l.nodes)) ≡ counted (nodes_size (name_in l.names) l.logic l.nodes);
  fits : l.size ≤ 18446744073709551615;
  named : AreNodesNamedBelow (length l.names) (drop l.node-index l.nodes);
}
