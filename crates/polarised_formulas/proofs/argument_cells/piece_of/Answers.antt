use Rattle.polarised_formulas.proofs.ArgumentFacts.{reach-opened, reach-parameter}
use Rattle.polarised_formulas.proofs.argument_cells.piece_of.Goals as goal

pub returns-in-Bound-clause-reach : goal.returns-in-Bound-clause-reach
returns-in-Bound-clause-reach c = rw (c.given_piece.ensures, c.bound_or.ensures) (reach-opened c.args.closure.now _)

pub returns-in-Var-clause-reach : goal.returns-in-Var-clause-reach
returns-in-Var-clause-reach c = rw (c.given_piece-in-Var.ensures, c.parameter_or.ensures) (reach-parameter c.args.closure.now _)
