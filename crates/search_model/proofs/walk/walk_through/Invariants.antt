use Rattle.std.proofs.Common.{◌≡◌, drop}
use Rattle.search_model.specs.States.{walk_through}
use Rattle.search_model.proofs.walk.walk_through.Given as goal

abbrev pub invariant-loop-cell : goal.invariant-loop-cell
invariant-loop-cell l = walk_through l.variable l.level l.cells l.initial.units ≡ walk_through l.variable l.level (drop l.cell-index l.cells) l.units
