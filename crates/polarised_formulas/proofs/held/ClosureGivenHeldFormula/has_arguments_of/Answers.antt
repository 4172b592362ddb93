use Rattle.polarised_formulas.proofs.ArgumentFacts.{same_cells, same_arguments}
use Rattle.polarised_formulas.proofs.held.ClosureGivenHeldFormula.has_arguments_of.Goals as goal

pub returns : goal.returns
returns c =
    let ts = c.args.terms.now in
    ((λ h. same_cells ts c.args.self.now c.args.other.now (c.are_same_cells.ensures.0 h)), (λ e. c.are_same_cells.ensures.1 (same_arguments ts c.args.self.now c.args.other.now e)))
