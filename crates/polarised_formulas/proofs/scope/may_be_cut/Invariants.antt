use Rattle.std.proofs.Common.{◌≡◌, [], drop}
use Rattle.polarised_formulas.specs.Scope.{are_cut_nodes}
use Rattle.polarised_formulas.proofs.scope.may_be_cut.Given as goal

abbrev pub invariant-loop-node : goal.invariant-loop-node
invariant-loop-node l = are_cut_nodes l.logic l.level l.walk.depth l.walk.pending (drop l.node-index l.nodes) ≡ are_cut_nodes l.logic l.level 0 [] l.nodes
