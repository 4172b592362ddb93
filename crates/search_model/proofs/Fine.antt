-- What holds of each state of the search, for an end that the asked terms and the steps shall meet.
use Rattle.std.specs.Prelude.{ℕ, List, ◌∷◌, ◌++◌, map, length}
use Rattle.std.specs.List.{All}
use Rattle.fpc_terms.specs.Term.{Term, variable, put}
use Rattle.fpc_terms.specs.Open.{AreOpen, level_of, IsClosing}
use Rattle.fpc_terms.proofs.LevelFacts.{IsPassed, ArePassed}
use Rattle.clause_language.specs.declared.clause.Clause.{Clause}
use Rattle.search_model.specs.Search.{SearchCalculus, equate, Alternative, State, between, walking, with_goals}
use Rattle.search_model.specs.Lawful.{Spelled, AreGoals}

module _ (C : SearchCalculus) (clauses : List Clause) (End : List Term → List C.StepOf → Type 0) where
  -- the goals are open and in scope, and under each closing that meets them the end is met
  pub record IsFine (a : Alternative C.ItemOf C.StepOf) : Type 0 where
    pub goals_are : AreGoals C a.levels a.goals
    pub asked_open : AreOpen (length a.levels) a.asked
    pub ends : (s : ℕ → Term) → IsClosing a.levels s → (steps : List C.StepOf) → Spelled C clauses s a.goals steps
        → End (map (put s) a.asked) (map (C.put_step s) a.emitted ++ steps)

  -- each alternative is
  abbrev pub AreFine : List (Alternative C.ItemOf C.StepOf) → Type 0
  AreFine alternatives = All IsFine alternatives

  -- in a walk, where the nodes to come are passed, the whole term is, and the first alternative was fine before its equality was taken
  abbrev pub IsStateFine : State C.ItemOf C.StepOf → Type 0
  IsStateFine (between alternatives) = AreFine alternatives
  IsStateFine (walking v t x xs a others) =
      IsFine (with_goals a (equate (variable v) t ∷ a.goals))
      × ((IsPassed v (level_of a.levels v) x → ArePassed v (level_of a.levels v) xs → IsPassed v (level_of a.levels v) t) × AreFine others)
