use Rattle.polarised_formulas.proofs.ArgumentFacts.{has_cell}
use Rattle.polarised_formulas.proofs.argument_cells.first_of.Goals as goal

pub first_cell-requires : goal.first_cell-requires
first_cell-requires c = rw c.cells.ensures (has_cell _)
