use Rattle.std.proofs.Common.{◌≡◌, ◌-◌, length, drop}
use Rattle.polarised_formulas.specs.Sizes.{sizes_of}
use Rattle.polarised_formulas.proofs.tree.sizes_of_nodes.Given as goal

abbrev pub invariant-loop-j : goal.invariant-loop-j
invariant-loop-j l = length l.sizes.items ≡ l.j

abbrev pub invariant-loop-k : goal.invariant-loop-k
invariant-loop-k l = record {
  all : length l.sizes.items ≡ length l.nodes;
  done : drop (length l.nodes - l.k) l.sizes.items ≡ sizes_of (drop (length l.nodes - l.k) l.nodes);
}
