-- Which terms and formulas a step may bring in, as tests on trees and node by node.
use Rattle.std.specs.Prelude.{ℕ, suc, Bool, true, false, ◌&&◌, nat_lt, List, [], ◌∷◌}
use Rattle.fpc_terms.specs.declared.cell.Cell.{Cell}
use Rattle.fpc_terms.specs.declared.cell.Cell.TheVariants.{Eigen, Bound, Var, App}
use Rattle.fpc_terms.specs.Term.{Term, Args, eigen, bound, variable, app, no_args, arg}
use Rattle.polarised_formulas.specs.declared.logic.Logic.{Logic}
use Rattle.polarised_formulas.specs.declared.logic.Logic.TheVariants.{Lkf, Ljf}
use Rattle.polarised_formulas.specs.declared.logic.Polarity.{Polarity}
use Rattle.polarised_formulas.specs.declared.logic.Polarity.TheVariants.{Positive, Negative}
use Rattle.polarised_formulas.specs.declared.node.Node.{Node}
use Rattle.polarised_formulas.specs.declared.node.Node.TheVariants.{True, False, Atom, And, Or, Implies, ForAll, Exists, Inside}
use Rattle.polarised_formulas.specs.Formula.{Formula, truth, falsity, atom, conj, disj, implies, for_all, exists}
use Rattle.polarised_formulas.specs.Opened.{depth_after, pending_after}

abbrev mutual
  -- the term has no variable, its eigenvariables are below n and its bound indexes below d
  pub is_scoped : ℕ → ℕ → Term → Bool
  is_scoped n d (eigen m) = nat_lt m n
  is_scoped n d (bound k) = nat_lt k d
  is_scoped n d (variable v) = false
  is_scoped n d (app f ts) = are_scoped n d ts

  -- the same of each of some terms
  pub are_scoped : ℕ → ℕ → Args → Bool
  are_scoped n d no_args = true
  are_scoped n d (arg t ts) = is_scoped n d t && are_scoped n d ts

-- the logic has implications: LJF alone does
abbrev pub has_implication : Logic → Bool
has_implication Lkf = false
has_implication Ljf = true

-- the logic has disjunctions and a falsity of the polarity: in LJF they are positive
abbrev pub has_disjunction : Logic → Polarity → Bool
has_disjunction Lkf p = true
has_disjunction Ljf Positive = true
has_disjunction Ljf Negative = false

-- the formula, under d quantifiers, may be cut at level n: it is of the logic, it has no variable
-- and no free bound index, and its eigenvariables are below n
abbrev pub may_be_cut : Logic → ℕ → ℕ → Formula → Bool
may_be_cut l n d (truth p) = true
may_be_cut l n d (falsity p) = has_disjunction l p
may_be_cut l n d (atom positive name ts) = are_scoped n d ts
may_be_cut l n d (conj p a b) = may_be_cut l n d a && may_be_cut l n d b
may_be_cut l n d (disj p a b) = has_disjunction l p && (may_be_cut l n d a && may_be_cut l n d b)
may_be_cut l n d (implies a b) = has_implication l && (may_be_cut l n d a && may_be_cut l n d b)
may_be_cut l n d (for_all a) = may_be_cut l n (suc d) a
may_be_cut l n d (exists a) = may_be_cut l n (suc d) a

-- the cell may stand in a term under d quantifiers at level n
abbrev pub is_scoped_cell : ℕ → ℕ → Cell → Bool
is_scoped_cell n d (Eigen m) = nat_lt m n
is_scoped_cell n d (Bound k) = nat_lt k d
is_scoped_cell n d (Var v) = false
is_scoped_cell n d (App f k) = true

-- the node may stand in a cut formula at level n, where its cells are under d quantifiers
abbrev pub is_cut_node : Logic → ℕ → ℕ → Node → Bool
is_cut_node l n d (True p) = true
is_cut_node l n d (False p) = has_disjunction l p
is_cut_node l n d (Atom positive name k) = true
is_cut_node l n d (And p) = true
is_cut_node l n d (Or p) = has_disjunction l p
is_cut_node l n d Implies = has_implication l
is_cut_node l n d ForAll = true
is_cut_node l n d Exists = true
is_cut_node l n d (Inside c) = is_scoped_cell n d c

-- all the nodes may; cells that come first are under d quantifiers, the formulas to come under
-- those of the list
abbrev pub are_cut_nodes : Logic → ℕ → ℕ → List ℕ → List Node → Bool
are_cut_nodes l n d s [] = true
are_cut_nodes l n d s (x ∷ ns) =
    is_cut_node l n d x && are_cut_nodes l n (depth_after x d s) (pending_after x d s) ns
