use Rattle.std.proofs.Common.{◌≡◌, ◌≤◌, ◌+◌, drop, length}
use Rattle.fpc_terms.specs.Text.{name_in}
use Rattle.fpc_terms.specs.Printing.{AreNamedBelow}
use Rattle.explicit_form.specs.Sizes.{counted, cells_size}
use Rattle.explicit_form.proofs.size.cells_size.Given as goal

abbrev pub invariant-loop-cell : goal.invariant-loop-cell
invariant-loop-cell l = record {
  size : counted (l.size + cells_size (name_in l.names) (drop l.cell-index l.cells)) ≡ counted (cells_size (name_in l.names) l.cells);
  fits : l.size ≤ 18446744073709551615;
  named : AreNamedBelow (length l.names) (drop l.cell-index l.cells);
}
