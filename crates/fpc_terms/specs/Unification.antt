-- Unification: the run of an equality of open terms, with levels. Each step takes one unit.
use Rattle.std.specs.Prelude.{ℕ, Option, Some, None, List, [], ◌∷◌, map}
use Rattle.fpc_terms.specs.Term.{Term, Args, variable, no_args, arg, joined, terms_in, put}
use Rattle.fpc_terms.specs.Open.{Level, level_of, lower_in, at_one}
use Rattle.fpc_terms.specs.Equality.{Equality, same, parts, older, walk, clash, equality}
use Rattle.fpc_terms.specs.Equality.{walked_node}
use Rattle.fpc_terms.specs.Run.{Ending, run}

-- two terms that are to become equal
pub record Equation : Type 0 where
  pub left : Term
  pub right : Term

-- What is to be solved: equations, the first one first; the rest, in which the variables stand too;
-- and the levels of the variables, in the order of their numbers.
pub record Problem (R : Type 0) : Type 0 where
  pub equations : List Equation
  pub rest : R
  pub levels : List Level

-- A state: a problem; or a walk through the term t for the variable v, at the node x with xs to
-- come, in a problem whose equation was taken; or a clash.
pub data Unification (R : Type 0) : Type 0 where
  unifying : Problem R → Unification R
  walking_through : (v : ℕ) → (t : Term) → (x : Term) → (xs : Args) → Problem R → Unification R
  clashed : Unification R

-- how unification ends: with the rest and the levels as they are then, or with a clash
pub data Unified (R : Type 0) : Type 0 where
  solved : (rest : R) → (levels : List Level) → Unified R
  unsolvable : Unified R

-- the equations of two lists of terms, from the left, before other equations
abbrev pub equations_before : List Term → List Term → List Equation → List Equation
equations_before (t ∷ ts) (u ∷ us) es = record { left = t; right = u } ∷ equations_before ts us es
equations_before _ _ es = es

-- an equation with a term for each variable
abbrev pub put_equation : (ℕ → Term) → Equation → Equation
put_equation s e = record { left = put s e.left; right = put s e.right }

module _ {R : Type 0} where
  -- a problem without equations is solved
  abbrev pub solved_in : List Equation → Problem R → Option (Unified R)
  solved_in [] p = Some (solved p.rest p.levels)
  solved_in (e ∷ es) p = None

  -- the answer in a state, where unification ends there
  abbrev pub unified : Unification R → Option (Unified R)
  unified (unifying p) = solved_in p.equations p
  unified (walking_through v t x xs p) = None
  unified clashed = Some unsolvable

-- how a term for each variable is put into the rest
module _ {R : Type 0} (put_rest : (ℕ → Term) → R → R) where
  -- t for the variable v everywhere, and the levels of the variables of t lowered to that of v
  abbrev pub solved_by : ℕ → Term → Problem R → Problem R
  solved_by v t p = record {
    equations = map (put_equation (at_one v t)) p.equations;
    rest = put_rest (at_one v t) p.rest;
    levels = lower_in (level_of p.levels v) t p.levels;
  }

  -- the state after an equality, which the problem has lost
  abbrev pub after_equality : Equality → Problem R → Unification R
  after_equality same p = unifying p
  after_equality (parts ts us) p =
      unifying (record p { equations = equations_before (terms_in ts) (terms_in us) p.equations })
  after_equality (older young old) p = unifying (solved_by young (variable old) p)
  after_equality (walk v t) p = walking_through v t t no_args p
  after_equality clash p = clashed

  -- the walk goes on with the nodes to come, or it was whole and binds
  abbrev pub through : ℕ → Term → Args → Problem R → Unification R
  through v t no_args p = unifying (solved_by v t p)
  through v t (arg x xs) p = walking_through v t x xs p

  -- the state after a node of the walk: its arguments come next, or it clashed
  abbrev pub after_node : ℕ → Term → Option Args → Args → Problem R → Unification R
  after_node v t None xs p = clashed
  after_node v t (Some ys) xs p = through v t (joined ys xs) p

  -- the first equation is taken
  abbrev pub equation_taken : List Equation → Problem R → Unification R
  equation_taken [] p = unifying p
  equation_taken (e ∷ es) p = after_equality (equality e.left e.right) (record p { equations = es })

  -- what one unit does
  abbrev pub unify_step : Unification R → Unification R
  unify_step (unifying p) = equation_taken p.equations p
  unify_step (walking_through v t x xs p) =
      after_node v t (walked_node v (level_of p.levels v) x) xs p
  unify_step clashed = clashed

  -- unification within a budget
  abbrev pub unify : ℕ → Problem R → Ending (Unified R)
  unify budget p = run unified unify_step budget (unifying p)
