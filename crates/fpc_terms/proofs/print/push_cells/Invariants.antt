use Rattle.std.proofs.Common.{◌≡◌, ◌++◌, [], drop, length}
use Rattle.fpc_terms.specs.Text.{plain_leaves, name_in}
use Rattle.fpc_terms.specs.Printing.{StartsWith, AreNamedBelow, cells_text}
use Rattle.fpc_terms.proofs.print.push_cells.Given as goal

abbrev pub invariant-loop-cell : goal.invariant-loop-cell
invariant-loop-cell l = record {
  text : l.out.items ++ cells_text (plain_leaves (name_in l.names)) l.counts (drop l.cell-index l.cells) ≡ l.fn.out.items ++ cells_text (plain_leaves (name_in l.names)) [] l.cells;
  named : AreNamedBelow (length l.names) (drop l.cell-index l.cells);
  front : StartsWith l.fn.out.items l.out.items;
}
