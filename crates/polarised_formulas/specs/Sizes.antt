-- The sizes of the formulas and terms among nodes.
use Rattle.std.specs.Prelude.{ℕ, suc, List, [], ◌∷◌}
use Rattle.polarised_formulas.specs.declared.node.Node.{Node}
use Rattle.polarised_formulas.specs.Nodes.{arity, front_length}

-- how many nodes the formula or term at each place has
abbrev pub sizes_of : List Node → List ℕ
sizes_of [] = []
sizes_of (n ∷ ns) = suc (front_length (arity n) ns) ∷ sizes_of ns

-- the sizes that are kept: none for one node
abbrev pub kept_sizes : List Node → List ℕ
kept_sizes [] = []
kept_sizes (n ∷ []) = []
kept_sizes (n ∷ m ∷ ns) = sizes_of (n ∷ m ∷ ns)
