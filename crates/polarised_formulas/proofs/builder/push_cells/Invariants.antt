use Rattle.std.proofs.Common.{◌≡◌, ◌++◌, [], drop, List}
use Rattle.polarised_formulas.specs.declared.node.Node.{Node}
use Rattle.polarised_formulas.specs.Formula.{inside_before}
use Rattle.polarised_formulas.proofs.builder.push_cells.Given as goal

abbrev pub invariant-loop-cell : goal.invariant-loop-cell
invariant-loop-cell l = record {
  all : l.nodes.items ++ inside_before (drop l.cell-index l.cells) [] ≡ l.initial.nodes.items ++ inside_before l.cells [];
  kept : (more : List Node) × (l.nodes.items ≡ l.initial.nodes.items ++ more);
}
