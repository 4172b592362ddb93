use Rattle.std.proofs.Common.{◌≡◌, ◌++◌, ◌∷◌, [], drop}
use Rattle.polarised_formulas.specs.Opened.{opened_nodes}
use Rattle.polarised_formulas.proofs.opening.open_with.Given as goal

abbrev pub invariant-loop-node : goal.invariant-loop-node
invariant-loop-node l = l.opening.nodes.items ++ opened_nodes l.t l.opening.depth l.opening.pending (drop l.node-index l.body) ≡ opened_nodes l.t 0 (0 ∷ []) l.body
