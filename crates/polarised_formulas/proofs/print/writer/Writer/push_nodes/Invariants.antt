use Rattle.std.proofs.Common.{◌≡◌, ◌++◌, [], drop, length}
use Rattle.fpc_terms.specs.Printing.{StartsWith}
use Rattle.polarised_formulas.specs.Printing.{AreNodesNamedBelow, form_style, nodes_text}
use Rattle.polarised_formulas.proofs.print.writer.Writer.push_nodes.Given as goal

abbrev pub invariant-loop-node : goal.invariant-loop-node
invariant-loop-node l = record {
  text : l.out.items ++ nodes_text (form_style l.self.form l.self.names.now) l.self.logic l.progress.depth l.progress.waiting (drop l.node-index l.nodes)
      ≡ l.fn.out.items ++ nodes_text (form_style l.self.form l.self.names.now) l.self.logic 0 [] l.nodes;
  named : AreNodesNamedBelow (length l.self.names.now) (drop l.node-index l.nodes);
  front : StartsWith l.fn.out.items l.out.items;
}
