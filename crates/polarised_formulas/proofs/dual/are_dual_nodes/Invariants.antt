use Rattle.std.proofs.Common.{◌≡◌, map, take}
use Rattle.polarised_formulas.specs.Nodes.{node_dual}
use Rattle.polarised_formulas.proofs.dual.are_dual_nodes.Given as goal

abbrev pub invariant-loop-i : goal.invariant-loop-i
invariant-loop-i l = map node_dual (take l.i l.a) ≡ take l.i l.b
