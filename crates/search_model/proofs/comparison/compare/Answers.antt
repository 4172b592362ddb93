use Rattle.search_model.proofs.ComparisonFacts.{first-read, some-cells_of}
use Rattle.search_model.proofs.comparison.compare.Goals as goal

pub bounds-cells-0 : goal.bounds-cells-0
bounds-cells-0 c = rw c.cells.ensures (some-cells_of c.args.left.now)

pub bounds-cells-0-2 : goal.bounds-cells-0-2
bounds-cells-0-2 c = rw c.cells-2.ensures (some-cells_of c.args.right.now)

pub returns : goal.returns
returns c = c.compare_cells.ensures c.args.left.now c.args.right.now (first-read c.args.left.now c.cells.result.now c.index-cells-0.result c.cells.ensures c.index-cells-0.is) (first-read c.args.right.now c.cells-2.result.now c.index-cells-0-2.result c.cells-2.ensures c.index-cells-0-2.is)
