use Rattle.std.proofs.Common.{arith}
use Rattle.fpc_terms.proofs.ArityFacts.{few_more}
use Rattle.fpc_terms.proofs.arity.few_cells.Goals as goal

pub loop-cell-preserved : goal.loop-cell-preserved
loop-cell-preserved c = few_more c.args.cells.now c.loop-cell.cell-index c.cell-item.result (omega arith) c.cell-item.is c.few_cell.ensures c.loop-cell.invariant

pub returns : goal.returns
returns c k d l = c.loop-cell.invariant k d (omega arith)
