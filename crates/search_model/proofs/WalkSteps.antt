-- The states of a walk in the first alternative.
use Rattle.std.specs.Prelude.{ℕ, Option, List, []}
use Rattle.fpc_terms.specs.Term.{Term, Args}
use Rattle.fpc_terms.specs.Unification.{through, after_node}
use Rattle.search_model.specs.Search.{SearchCalculus, Alternative, State, problem_of, at_first, put_rest}

module _ (C : SearchCalculus) where
  -- the walk goes on with the nodes to come, or it was whole and binds
  abbrev pub walked_on : ℕ → Term → Args → Alternative C.ItemOf C.StepOf
      → List (Alternative C.ItemOf C.StepOf) → State C.ItemOf C.StepOf
  walked_on v t xs a others = at_first (through (put_rest C) v t xs (problem_of [] a)) others

  -- the state after a node of the walk
  abbrev pub behind_node : ℕ → Term → Option Args → Args → Alternative C.ItemOf C.StepOf
      → List (Alternative C.ItemOf C.StepOf) → State C.ItemOf C.StepOf
  behind_node v t q xs a others = at_first (after_node (put_rest C) v t q xs (problem_of [] a)) others
