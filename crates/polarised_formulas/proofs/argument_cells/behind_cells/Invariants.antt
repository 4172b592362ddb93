use Rattle.std.proofs.Common.{◌≡◌, ◌++◌, take}
use Rattle.polarised_formulas.specs.ArgumentCells.{cells_from}
use Rattle.polarised_formulas.proofs.argument_cells.behind_cells.Given as goal

abbrev pub invariant-loop-cell : goal.invariant-loop-cell
invariant-loop-cell l =
    cells_from l.terms l.closure l.initial.place.term.now l.initial.place.nodes.now ≡ take l.cell-index l.cells ++ cells_from l.terms l.closure l.place.term.now l.place.nodes.now
