-- What one node says of its formula, and what is read off a list of nodes.
use Rattle.std.specs.Prelude.{◌≡◌, ℕ, zero, suc, ◌+◌, Bool, false, not, List, [], ◌∷◌}
use Rattle.fpc_terms.specs.declared.cell.Cell.TheVariants.{Eigen, Bound, Var, App}
use Rattle.fpc_terms.specs.Scope.{is_eigen_from}
use Rattle.polarised_formulas.specs.declared.logic.Polarity.{Polarity}
use Rattle.polarised_formulas.specs.declared.logic.Polarity.TheVariants.{Positive, Negative}
use Rattle.polarised_formulas.specs.declared.node.Node.{Node}
use Rattle.polarised_formulas.specs.declared.node.Node.TheVariants.{True, False, Atom, And, Or, Implies, ForAll, Exists, Inside}
use Rattle.polarised_formulas.specs.Formula.{Formula, dual_of, polarity_of, other_polarity, sign_polarity, IsLkf}

-- the polarity of the formula whose outermost node it is
abbrev pub node_polarity : Node → Polarity
node_polarity (True p) = p
node_polarity (False p) = p
node_polarity (Atom positive name n) = sign_polarity positive
node_polarity (And p) = p
node_polarity (Or p) = p
node_polarity Implies = Negative
node_polarity ForAll = Negative
node_polarity Exists = Positive
node_polarity (Inside c) = Positive

-- the node in the dual formula
abbrev pub node_dual : Node → Node
node_dual (True p) = False (other_polarity p)
node_dual (False p) = True (other_polarity p)
node_dual (Atom positive name n) = Atom (not positive) name n
node_dual (And p) = Or (other_polarity p)
node_dual (Or p) = And (other_polarity p)
node_dual Implies = Implies
node_dual ForAll = Exists
node_dual Exists = ForAll
node_dual (Inside c) = Inside c

-- how many formulas and terms stand behind a node as its parts
abbrev pub arity : Node → ℕ
arity (True p) = 0
arity (False p) = 0
arity (Atom positive name n) = n
arity (And p) = 2
arity (Or p) = 2
arity Implies = 2
arity ForAll = 1
arity Exists = 1
arity (Inside (Eigen n)) = 0
arity (Inside (Bound k)) = 0
arity (Inside (Var n)) = 0
arity (Inside (App f n)) = n

-- how many nodes the first of the formulas and terms have, as many of these as wanted
abbrev pub front_length : ℕ → List Node → ℕ
front_length zero ns = 0
front_length (suc wanted) [] = 0
front_length (suc wanted) (n ∷ ns) = suc (front_length (wanted + arity n) ns)

-- the node is an eigenvariable with a number of at least n
abbrev pub is_eigen_node_from : ℕ → Node → Bool
is_eigen_node_from n (Inside c) = is_eigen_from n c
is_eigen_node_from n _ = false

-- the dual of a dual is the formula itself
abbrev pub DualOfDual : Type 0
DualOfDual = (f : Formula) → dual_of (dual_of f) ≡ f

-- the dual of a formula of LKF has the other polarity
abbrev pub PolarityOfDual : Type 0
PolarityOfDual = (f : Formula) → IsLkf f → polarity_of (dual_of f) ≡ other_polarity (polarity_of f)
