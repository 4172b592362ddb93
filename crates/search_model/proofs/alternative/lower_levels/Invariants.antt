use Rattle.std.proofs.Common.{◌≡◌, drop}
use Rattle.search_model.specs.States.{lower_cells}
use Rattle.search_model.proofs.alternative.lower_levels.Given as goal

abbrev pub invariant-loop-cell : goal.invariant-loop-cell
invariant-loop-cell l = lower_cells l.level l.cells l.initial.levels.items ≡ lower_cells l.level (drop l.cell-index l.cells) l.levels.items
