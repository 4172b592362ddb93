use Rattle.std.proofs.Common.{◌≡◌, ◌+◌, ◌≤◌, take, drop}
use Rattle.std.specs.List.{sum_by}
use Rattle.fpc_terms.specs.Cells.{arity, front_length}
use Rattle.fpc_terms.proofs.arguments.length_of_first.Given as goal

abbrev pub invariant-loop-i : goal.invariant-loop-i
invariant-loop-i l = record {
  so_far : l.i + front_length l.wanted (drop l.i l.cells) ≡ front_length 1 l.cells;
  small : l.wanted ≤ 1 + sum_by arity (take l.i l.cells);
}
