use Rattle.std.proofs.Common.{◌≡◌, ◌++◌, [], drop}
use Rattle.polarised_formulas.specs.Formula.{inside_before}
use Rattle.polarised_formulas.proofs.substitution.push_cells.Given as goal

abbrev pub invariant-loop-cell : goal.invariant-loop-cell
invariant-loop-cell l = l.nodes.items ++ inside_before (drop l.cell-index l.cells) [] ≡ l.initial.nodes.items ++ inside_before l.cells []
