use Rattle.std.proofs.Common.{◌≡◌, drop, length}
use Rattle.std.specs.List.{sum_by}
use Rattle.fpc_terms.specs.Text.{plain_leaves, name_in, room_left}
use Rattle.fpc_terms.specs.Printing.{AreNamedBelow, cell_length}
use Rattle.fpc_terms.proofs.print.room_behind_cells.Given as goal

abbrev pub invariant-loop-cell : goal.invariant-loop-cell
invariant-loop-cell l = record {
  room : room_left l.left (sum_by (cell_length (plain_leaves (name_in l.names))) (drop l.cell-index l.cells)) ≡ room_left l.fn.room (sum_by (cell_length (plain_leaves (name_in l.names))) l.cells);
  named : AreNamedBelow (length l.names) (drop l.cell-index l.cells);
}
