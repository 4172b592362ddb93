use Rattle.std.proofs.Common.{◌≡◌, take}
use Rattle.std.specs.List.{flat_map}
use Rattle.fpc_terms.specs.Open.{later}
use Rattle.fpc_terms.specs.Substitution.{cell_put}
use Rattle.fpc_terms.proofs.substitution.cells_with_later_variables.Given as goal

abbrev pub invariant-loop-cell : goal.invariant-loop-cell
invariant-loop-cell l = l.new.items ≡ flat_map (cell_put (later l.offset)) (take l.cell-index l.cells)
