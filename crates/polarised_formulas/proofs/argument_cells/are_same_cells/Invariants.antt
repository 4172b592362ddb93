use Rattle.std.proofs.Common.{◌≡◌, ◌↔◌, drop}
use Rattle.polarised_formulas.specs.ArgumentCells.{filled_cells, cells_from}
use Rattle.polarised_formulas.proofs.argument_cells.are_same_cells.Given as goal

abbrev pub invariant-loop-node : goal.invariant-loop-node
invariant-loop-node l =
    (filled_cells l.terms l.a l.node-items ≡ cells_from l.terms l.b l.initial.place.term.now l.initial.place.nodes.now)
    ↔ (filled_cells l.terms l.a (drop l.node-index l.node-items) ≡ cells_from l.terms l.b l.place.term.now l.place.nodes.now)
