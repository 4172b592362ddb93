use Rattle.std.proofs.Common.{ℕ, ◌<◌, slice_index_or}
use Rattle.fpc_terms.specs.declared.cell.Cell.{Cell}
use Rattle.fpc_terms.specs.Arity.{IsFewCell}
use Rattle.fpc_terms.proofs.arity.few_cells.Given as goal

abbrev pub invariant-loop-cell : goal.invariant-loop-cell
invariant-loop-cell l = (k : ℕ) (d : Cell) → k < l.cell-index → IsFewCell (slice_index_or l.cells k d)
