-- Eigenvariables node by node.
use Rattle.std.proofs.Common.{◌≡◌, ℕ, List, [], ◌∷◌, refl}
use Rattle.std.specs.Prelude.{◌||◌}
use Rattle.std.specs.List.{list_any}
use Rattle.std.proofs.Math.Bool.{or_assoc}
use Rattle.fpc_terms.specs.declared.cell.Cell.{Cell}
use Rattle.fpc_terms.specs.Term.{all_before, any_has_eigen_from}
use Rattle.fpc_terms.specs.Scope.{is_eigen_from}
use Rattle.fpc_terms.proofs.ScopeFacts.{any-all_before, or_nothing}
use Rattle.polarised_formulas.specs.declared.node.Node.{Node}
use Rattle.polarised_formulas.specs.Formula.{Formula, truth, falsity, atom, conj, disj, implies, for_all, exists, nodes_before, nodes_of, inside_before, has_eigen_in}
use Rattle.polarised_formulas.specs.Nodes.{is_eigen_node_from}

any-inside_before : (n : ℕ) (cs : List Cell) (ns : List Node) →
    list_any (is_eigen_node_from n) (inside_before cs ns) ≡ (list_any (is_eigen_from n) cs || list_any (is_eigen_node_from n) ns)
any-inside_before n [] ns = refl
any-inside_before n (c ∷ cs) ns = rw (any-inside_before n cs ns, or_assoc)

any-nodes_before : (n : ℕ) (f : Formula) (ns : List Node) → list_any (is_eigen_node_from n) (nodes_before f ns) ≡ (has_eigen_in n f || list_any (is_eigen_node_from n) ns)
any-nodes_before n (truth p) ns = refl
any-nodes_before n (falsity p) ns = refl
any-nodes_before n (atom positive name ts) ns = rw (any-inside_before n (all_before ts []) ns, any-all_before n ts [], or_nothing (any_has_eigen_from n ts))
any-nodes_before n (conj p a b) ns = rw (any-nodes_before n a (nodes_before b ns), any-nodes_before n b ns, or_assoc)
any-nodes_before n (disj p a b) ns = rw (any-nodes_before n a (nodes_before b ns), any-nodes_before n b ns, or_assoc)
any-nodes_before n (implies a b) ns = rw (any-nodes_before n a (nodes_before b ns), any-nodes_before n b ns, or_assoc)
any-nodes_before n (for_all a) ns = any-nodes_before n a ns
any-nodes_before n (exists a) ns = any-nodes_before n a ns

pub any-nodes_of : (n : ℕ) (f : Formula) → list_any (is_eigen_node_from n) (nodes_of f) ≡ has_eigen_in n f
any-nodes_of n f = rw (any-nodes_before n f [], or_nothing (has_eigen_in n f))

pub ruleset eigen_facts = (any-nodes_of)
