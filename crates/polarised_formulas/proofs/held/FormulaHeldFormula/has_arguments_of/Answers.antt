use Rattle.std.proofs.Common.{◌≡◌}
use Rattle.polarised_formulas.specs.Formula.{nodes_of}
use Rattle.polarised_formulas.specs.ArgumentCells.{argument_nodes}
use Rattle.polarised_formulas.proofs.ArgumentFacts.{same_nodes, nodes_same}
use Rattle.polarised_formulas.proofs.held.FormulaHeldFormula.has_arguments_of.Goals as goal

pub returns : goal.returns
returns c =
    let a : c.argument_nodes.result.now ≡ argument_nodes (nodes_of c.args.self.now) = rw (c.argument_nodes.ensures, c.nodes.ensures) in
    let b : c.argument_nodes-2.result.now ≡ argument_nodes (nodes_of c.args.other.now) = rw (c.argument_nodes-2.ensures, c.nodes-2.ensures) in
    let same = rw (a, b) at c.are_same_nodes.ensures in
    ((λ h. same_nodes c.args.self.now c.args.other.now (same.0 h)), (λ e. same.1 (nodes_same c.args.self.now c.args.other.now e)))
