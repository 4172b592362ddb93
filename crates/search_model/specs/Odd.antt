-- Being natural doesn't follow from the other laws: a calculus that is lawful and complete, and
-- whose goal lists hang on the number of the first new variable.
use Rattle.std.specs.Prelude.{◌≡◌, ℕ, zero, suc, List, [], ◌∷◌}
use Rattle.clause_language.specs.declared.clause.Clause.{Clause}
use Rattle.search_model.specs.Search.{SearchCalculus, GoalList}
use Rattle.search_model.specs.Lawful.{IsLawful, IsComplete, IsNatural}

-- its one item
pub data One : Type 0 where
  one : One

-- it has no step
pub data NoStep : Type 0 where

-- the goal list without goals and variables
abbrev pub empty_list : GoalList One NoStep
empty_list = record { goals = []; new = [] }

-- one empty goal list where the number is 0, and two else
abbrev pub lists_from : ℕ → List (GoalList One NoStep)
lists_from zero = empty_list ∷ []
lists_from (suc k) = empty_list ∷ empty_list ∷ []

abbrev pub odd : SearchCalculus
odd = record {
  ItemOf = One;
  StepOf = NoStep;
  put_item = λ s x. x;
  put_step = λ s e. e;
  expand = λ x k. lists_from k;
  Completed = λ x steps. steps ≡ [];
  IsOpenItem = λ k x. Unit {0};
  IsOpenStep = λ k e. Unit {0};
  IsScopedItem = λ levels x. Unit {0};
}

-- it is lawful and complete, whatever the clauses are, and not natural
pub record NaturalIsApart : Type 0 where
  pub lawful : (clauses : List Clause) → IsLawful odd clauses
  pub complete : (clauses : List Clause) → IsComplete odd clauses
  pub not_natural : ¬ (IsNatural odd)
