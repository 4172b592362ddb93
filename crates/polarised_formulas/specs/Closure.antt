-- A part of a formula with references for its free indexes and its variables, and the formula that it stands for.
use Rattle.std.specs.Prelude.{◌≡◌, ℕ, suc, ◌+◌, ◌-◌, ◌<◌, nat_lt, Bool, true, false, not, if◌then◌else◌, List, [], ◌∷◌, map, get_or, drop, refl}
use Rattle.std.specs.Coded.{Coded, code_by, coded×, coded_bool, coded_list}
use Rattle.std.specs.List.{AllByRecursion}
use Rattle.fpc_terms.specs.Term.{Term, Args, eigen, bound, variable, app, no_args, arg, Each, Always, Never}
use Rattle.polarised_formulas.specs.declared.node.Node.{Node}
use Rattle.polarised_formulas.specs.Formula.{Formula, truth, falsity, atom, conj, disj, implies, for_all, exists, formula_code, nodes_before, formula_of, dual_of, EachInside}
use Rattle.polarised_formulas.specs.Nodes.{front_length, node_dual}

abbrev mutual
  -- a term under d quantifiers with terms os for the indexes that they don't bind, and ps for the variables
  pub fill_term : List Term → List Term → ℕ → Term → Term
  fill_term os ps d (eigen n) = eigen n
  fill_term os ps d (bound k) = if nat_lt k d then bound k else get_or os (k - d) (eigen 0)
  fill_term os ps d (variable v) = get_or ps v (eigen 0)
  fill_term os ps d (app f ts) = app f (fill_args os ps d ts)

  pub fill_args : List Term → List Term → ℕ → Args → Args
  fill_args os ps d no_args = no_args
  fill_args os ps d (arg t ts) = arg (fill_term os ps d t) (fill_args os ps d ts)

-- the same in a formula under d quantifiers
abbrev pub fill : List Term → List Term → ℕ → Formula → Formula
fill os ps d (truth p) = truth p
fill os ps d (falsity p) = falsity p
fill os ps d (atom positive name ts) = atom positive name (fill_args os ps d ts)
fill os ps d (conj p a b) = conj p (fill os ps d a) (fill os ps d b)
fill os ps d (disj p a b) = disj p (fill os ps d a) (fill os ps d b)
fill os ps d (implies a b) = implies (fill os ps d a) (fill os ps d b)
fill os ps d (for_all a) = for_all (fill os ps (suc d) a)
fill os ps d (exists a) = exists (fill os ps (suc d) a)

-- the dual, where it is meant
abbrev pub marked : Bool → Formula → Formula
marked true f = dual_of f
marked false f = f

-- the same for an outermost node
abbrev pub marked_node : Bool → Node → Node
marked_node true n = node_dual n
marked_node false n = n

-- a part of a formula, or its dual, with references for its free bound indexes, the innermost first, and for its variables
pub record Closure (R : Type 0) : Type 0 where
  pub part : Formula
  pub is_dual : Bool
  pub opened : List R
  pub parameters : List R

-- each free bound index of the formula, which is under d quantifiers, is below m, and each variable below p
abbrev pub IsReached : ℕ → ℕ → ℕ → Formula → Type 0
IsReached m p d f = EachInside Always (λ e k. k < e + m) (λ v. v < p) d f

module _ {R : Type 0} where
  -- a closure is stored as its four fields
  abbrev pub closure_code : Coded R → Coded (Closure R)
  closure_code c =
      code_by (Formula × (Bool × (List R × List R))) (coded× formula_code (coded× coded_bool (coded× (coded_list c) (coded_list c))))
      (λ x. (x.part, (x.is_dual, (x.opened, x.parameters)))) (λ p. record { part = p.0; is_dual = p.1.0; opened = p.1.1.0; parameters = p.1.1.1 }) (λ _. refl)

  -- the formula that a closure stands for, by the terms of the references
  abbrev pub stands_for : (R → Term) → Closure R → Formula
  stands_for ref c = marked c.is_dual (fill (map ref c.opened) (map ref c.parameters) 0 c.part)

  -- the closure of a formula without free bound indexes, with references for its variables
  abbrev pub root_closure : Formula → List R → Closure R
  root_closure f ps = record { part = f; is_dual = false; opened = []; parameters = ps }

  -- the closure of another part, with the same references
  abbrev pub at_part : Closure R → Formula → Closure R
  at_part c f = record c { part = f }

  -- the closure of a body, with a reference for the index that the quantifier binds
  abbrev pub opened_by : R → Closure R → Formula → Closure R
  opened_by r c f = record { part = f; is_dual = c.is_dual; opened = r ∷ c.opened; parameters = c.parameters }

  -- the closure of the dual
  abbrev pub dual_closure : Closure R → Closure R
  dual_closure c = record c { is_dual = not c.is_dual }

  -- the references of a list have the same terms by both
  abbrev pub Agree : (R → Term) → (R → Term) → List R → Type 0
  Agree f g rs = AllByRecursion (λ r. f r ≡ g r) rs

-- the terms of the references have no bound index
abbrev pub NoneBound : {R : Type 0} → (R → Term) → Type 0
NoneBound {R} ref = (r : R) → Each Always Never Always (ref r)

-- nodes that begin with those of a formula, whose free indexes are below m and whose variables are below p
pub record IsAt (ns : List Node) (m p : ℕ) : Type 0 where
  pub whole : nodes_before (formula_of ns) (drop (front_length 1 ns) ns) ≡ ns
  pub reach : IsReached m p 0 (formula_of ns)
