use Rattle.std.proofs.Common.{◌≡◌, ◌+◌, ◌≤◌, take, drop}
use Rattle.std.specs.List.{sum_by}
use Rattle.polarised_formulas.specs.Nodes.{arity, front_length}
use Rattle.polarised_formulas.proofs.parts.length_of_first.Given as goal

abbrev pub invariant-loop-i : goal.invariant-loop-i
invariant-loop-i l = record {
  so_far : l.i + front_length l.wanted (drop l.i l.nodes) ≡ front_length 1 l.nodes;
  small : l.wanted ≤ 1 + sum_by arity (take l.i l.nodes);
}
