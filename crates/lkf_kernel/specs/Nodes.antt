-- What one node says of its formula for the table.
use Rattle.std.specs.Prelude.{ℕ, Bool, true, false, ◌&&◌, nat_eq}
use Rattle.fpc_terms.specs.declared.cell.Cell.{Cell}
use Rattle.fpc_terms.specs.declared.cell.Cell.TheVariants.{Bound, App}
use Rattle.polarised_formulas.specs.Formula.{Formula, atom}
use Rattle.polarised_formulas.specs.declared.logic.Polarity.TheVariants.{Positive, Negative}
use Rattle.polarised_formulas.specs.declared.node.Node.{Node}
use Rattle.polarised_formulas.specs.declared.node.Node.TheVariants.{True, False, Atom, And, Or}
use Rattle.polarised_formulas.specs.declared.node.Node.TheVariants.{Implies, ForAll, Exists, Inside}

-- the formula whose outermost node it is may be stored: it is positive or a literal
abbrev pub is_storable_node : Node → Bool
is_storable_node (True Positive) = true
is_storable_node (True Negative) = false
is_storable_node (False Positive) = true
is_storable_node (False Negative) = false
is_storable_node (Atom positive name n) = true
is_storable_node (And Positive) = true
is_storable_node (And Negative) = false
is_storable_node (Or Positive) = true
is_storable_node (Or Negative) = false
is_storable_node Implies = false
is_storable_node ForAll = false
is_storable_node Exists = true
is_storable_node (Inside c) = false

-- the formula is a negative literal of this name and number of arguments
abbrev pub is_negative_node : ℕ → ℕ → Node → Bool
is_negative_node f c (Atom false g n) = nat_eq f g && nat_eq c n
is_negative_node f c _ = false

-- the formula is a literal
abbrev pub IsLiteral : Formula → Type 0
IsLiteral (atom positive name ts) = Unit {0}
IsLiteral _ = ⊥

-- the cell of a literal's atom that the node stands for; some cell for a node of no literal
abbrev pub atom_cell : Node → Cell
atom_cell (Atom positive name n) = App name n
atom_cell (Inside c) = c
atom_cell _ = Bound 0
