-- Terms that are substituted for variables in formulas, node by node.
use Rattle.std.specs.Prelude.{ℕ, List, [], ◌∷◌}
use Rattle.fpc_terms.specs.Substitution.{cell_put}
use Rattle.fpc_terms.specs.Term.{Term}
use Rattle.polarised_formulas.specs.declared.node.Node.{Node}
use Rattle.polarised_formulas.specs.declared.node.Node.TheVariants.{Inside}
use Rattle.polarised_formulas.specs.Formula.{inside_before}

-- the nodes in place of a node: those of its term for a variable, and the node itself for another
abbrev pub node_put : (ℕ → Term) → Node → List Node
node_put s (Inside c) = inside_before (cell_put s c) []
node_put s n = n ∷ []
