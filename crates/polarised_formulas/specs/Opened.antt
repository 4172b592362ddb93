-- How a term is put in the place of a bound index, node by node: depths count the quantifiers around a formula.
use Rattle.std.specs.Prelude.{ℕ, suc, min, List, [], ◌∷◌, ◌++◌, nat_eq, if◌then◌else◌}
use Rattle.fpc_terms.specs.declared.cell.Cell.{Cell}
use Rattle.fpc_terms.specs.declared.cell.Cell.TheVariants.{Eigen, Bound, Var, App}
use Rattle.fpc_terms.specs.Term.{Term, cells_of}
use Rattle.polarised_formulas.specs.declared.node.Node.{Node}
use Rattle.polarised_formulas.specs.declared.node.Node.TheVariants.{True, False, Atom, And, Or, Implies, ForAll, Exists, Inside}
use Rattle.polarised_formulas.specs.Formula.{inside_before}

-- the cells in the place of a cell at depth d
abbrev pub opened_cell : Term → ℕ → Cell → List Cell
opened_cell t d (Eigen n) = Eigen n ∷ []
opened_cell t d (Bound k) = if nat_eq k d then cells_of t else Bound k ∷ []
opened_cell t d (Var v) = Var v ∷ []
opened_cell t d (App f n) = App f n ∷ []

-- the nodes in the place of a node, where the cells are at depth d
abbrev pub opened_node : Term → ℕ → Node → List Node
opened_node t d (Inside c) = inside_before (opened_cell t d c) []
opened_node t d n = n ∷ []

-- the depth below one more quantifier; it stands still at the end of its type
abbrev pub deeper : ℕ → ℕ
deeper d = min (suc d) 18446744073709551615

-- the depths of the parts of a node at depth d, in front of those of the formulas still to come
abbrev pub parts_at : Node → ℕ → List ℕ → List ℕ
parts_at (And p) d s = d ∷ d ∷ s
parts_at (Or p) d s = d ∷ d ∷ s
parts_at Implies d s = d ∷ d ∷ s
parts_at ForAll d s = deeper d ∷ s
parts_at Exists d s = deeper d ∷ s
parts_at (True p) d s = s
parts_at (False p) d s = s
parts_at (Atom positive name n) d s = s
parts_at (Inside c) d s = s

-- the first depth, or another one where there is none
abbrev pub first_or : ℕ → List ℕ → ℕ
first_or d [] = d
first_or d (e ∷ s) = e

abbrev pub later : List ℕ → List ℕ
later [] = []
later (e ∷ s) = s

-- the depth of the cells behind a node
abbrev pub depth_after : Node → ℕ → List ℕ → ℕ
depth_after (Inside c) d s = d
depth_after n d s = first_or d s

-- the depths of the formulas still to come behind a node
abbrev pub pending_after : Node → ℕ → List ℕ → List ℕ
pending_after (Inside c) d s = s
pending_after n d s = parts_at n (first_or d s) (later s)

-- the nodes with the term put in; cells that come first are at depth d, the formulas to come at the depths of the list
abbrev pub opened_nodes : Term → ℕ → List ℕ → List Node → List Node
opened_nodes t d s [] = []
opened_nodes t d s (n ∷ ns) = opened_node t d n ++ opened_nodes t (depth_after n d s) (pending_after n d s) ns
