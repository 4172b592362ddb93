use Rattle.std.proofs.Common.{◌≡◌}
use Rattle.polarised_formulas.specs.Nodes.{front_length}
use Rattle.polarised_formulas.proofs.tree.length_of.Given as goal

abbrev pub invariant-loop-i : goal.invariant-loop-i
invariant-loop-i l = l.total ≡ front_length l.i l.nodes
