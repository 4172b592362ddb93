-- The values of the program's states as states of the search.
use Rattle.std.specs.Prelude.{◌≡◌, ℕ, zero, suc, ◌-◌, Bool, true, false, nat_eq, if◌then◌else◌}
use Rattle.std.specs.Prelude.{Option, Some, None, List, [], ◌∷◌, map, reverse, set}
use Rattle.fpc_terms.specs.declared.cell.Cell.{Cell}
use Rattle.fpc_terms.specs.declared.cell.Cell.TheVariants.{Eigen, Bound, Var, App}
use Rattle.fpc_terms.specs.Equality.{Equality, same, parts, older, walk, clash}
use Rattle.fpc_terms.specs.Equality.{is_out_of_scope, has_level}
use Rattle.fpc_terms.specs.Open.{Level, level_of, lower}
use Rattle.fpc_terms.specs.Term.{Term, Args, eigen, bound, variable, app, no_args, count}
use Rattle.polarised_formulas.specs.declared.step.Step.{Step}
use Rattle.clause_language.specs.declared.clause.Clause.{Clause}
use Rattle.clause_language.specs.LeastModel.{fits}
pub use Rattle.fpc_terms.specs.Run.{raise}
use Rattle.search_model.specs.Run.{Ending, ended, spent, run}
use Rattle.search_model.specs.GoalItems.{goal_in, goal_over, list_in, list_over}
use Rattle.search_model.specs.Search as search
use Rattle.search_model.specs.Solve.{Nothing}
use Rattle.search_model.specs.Table.{ItemOn}
use Rattle.search_model.specs.declared.goals.GoalItem.{GoalItem}
use Rattle.search_model.specs.declared.goals.Goals.{Goals}
use Rattle.search_model.specs.declared.alternative.Alternative.{Alternative}
use Rattle.search_model.specs.declared.comparison.Comparison.{Comparison}
use Rattle.search_model.specs.declared.comparison.Comparison.TheVariants.{Same, Parts, Older}
use Rattle.search_model.specs.declared.comparison.Comparison.TheVariants.{Left, Right, Clash}
use Rattle.search_model.specs.declared.search.Found.{Found}
use Rattle.search_model.specs.declared.search.Found.TheVariants.{Accepted as FoundAccepted}
use Rattle.search_model.specs.declared.search.Found.TheVariants.{Rejected as FoundRejected}
use Rattle.search_model.specs.declared.search.Found.TheVariants.{Spent as FoundSpent}
use Rattle.search_model.specs.declared.walk.Walked.{Walked}
use Rattle.search_model.specs.declared.walk.Walked.TheVariants.{Passed, Clashed, OutOfUnits}

-- the values over sequents S, where each sequent is one of V
module _ {S V : Type 0} (of : S → V) where
  -- a goal
  abbrev pub goal_of : GoalItem S → search.Goal (ItemOn V) Step
  goal_of g = goal_over of (goal_in g)

  -- a goal list
  abbrev pub list_of : Goals S → search.GoalList (ItemOn V) Step
  list_of gs = list_over of (list_in gs)

  -- goals, which are kept with the first one last
  abbrev pub goals_of : List (GoalItem S) → List (search.Goal (ItemOn V) Step)
  goals_of goals = reverse (map goal_of goals)

  -- an alternative
  abbrev pub alternative_of : Alternative S → search.Alternative (ItemOn V) Step
  alternative_of a = record {
    goals = goals_of a.goals.items;
    emitted = a.emitted.items;
    asked = a.asked;
    levels = a.levels.items;
  }

  -- alternatives, which are kept with the first one last
  abbrev pub alternatives_of : List (Alternative S) → List (search.Alternative (ItemOn V) Step)
  alternatives_of stack = reverse (map alternative_of stack)

-- each variable among the cells whose level is above l gets the level l
abbrev pub lower_cells : Level → List Cell → List Level → List Level
lower_cells l [] levels = levels
lower_cells l (Eigen n ∷ cells) levels = lower_cells l cells levels
lower_cells l (Bound k ∷ cells) levels = lower_cells l cells levels
lower_cells l (Var n ∷ cells) levels =
    lower_cells l cells (set levels n (lower l (level_of levels n)))
lower_cells l (App f k ∷ cells) levels = lower_cells l cells levels

-- the arguments of an application; none of another term
abbrev pub args_in : Term → Args
args_in (app f ts) = ts
args_in _ = no_args

-- the first cell of a term
abbrev pub first_cell : Term → Cell
first_cell (eigen n) = Eigen n
first_cell (bound k) = Bound k
first_cell (variable n) = Var n
first_cell (app f ts) = App f (count ts)

-- what a comparison of two terms says of their equality
abbrev pub equality_meant : Comparison → Term → Term → Equality
equality_meant Same t u = same
equality_meant Parts t u = parts (args_in t) (args_in u)
equality_meant (Older young old) t u = older young old
equality_meant (Left v) t u = walk v u
equality_meant (Right v) t u = walk v t
equality_meant Clash t u = clash

-- the walk for the variable v of level l clashes at the cell
abbrev pub is_clash : ℕ → Level → Cell → Bool
is_clash v l (Eigen m) = is_out_of_scope l m
is_clash v l (Bound k) = has_level l
is_clash v l (Var n) = nat_eq n v
is_clash v l (App f k) = false

-- how the walk through cells ends, and the units that are left
abbrev pub walk_through : ℕ → Level → List Cell → ℕ → Walked × ℕ
walk_through v l [] units = (Passed, units)
walk_through v l (c ∷ cells) zero = (OutOfUnits, 0)
walk_through v l (c ∷ cells) (suc units) =
    if is_clash v l c then (Clashed, units) else walk_through v l cells units

-- the run of the search from a state
abbrev pub running : (C : search.SearchCalculus) → List Clause → ℕ
    → search.State C.ItemOf C.StepOf → Ending (search.Answer C.ItemOf C.StepOf)
running C clauses units q = run search.answer (search.step C fits clauses) units q

-- the alternatives in a state that is no walk
abbrev pub at_between : {I S : Type 0} → search.State I S → Option (List (search.Alternative I S))
at_between (search.between alternatives) = Some alternatives
at_between (search.walking v t x xs first others) = None

-- the run from a state to the next one that is no walk
abbrev pub to_between : (C : search.SearchCalculus) → List Clause → ℕ
    → search.State C.ItemOf C.StepOf → Ending (List (search.Alternative C.ItemOf C.StepOf))
to_between C clauses units q = run at_between (search.step C fits clauses) units q

-- a run that took some of the units ends with x, where there were enough
abbrev pub reached : {X : Type 0} → ℕ → ℕ → Bool → X → Ending X
reached units left true x = ended x (units - left)
reached units left false x = spent

-- what was found is the ending of the search
abbrev pub IsFound : {I : Type 0} → Found → Ending (search.Answer I Step) → Type 0
IsFound {I = I} (FoundAccepted asked emitted units) e =
    (a : search.Alternative I Step) × (e ≡ ended (search.accepted a) units) × (a.asked ≡ asked)
    × (a.emitted ≡ emitted.items)
IsFound (FoundRejected units) e = e ≡ ended search.rejected units
IsFound FoundSpent e = e ≡ spent

-- what was found is the ending of the search over clauses alone
abbrev pub IsFoundAlone : Found → Ending (search.Answer Nothing Nothing) → Type 0
IsFoundAlone (FoundAccepted asked emitted units) e =
    (a : search.Alternative Nothing Nothing) × (e ≡ ended (search.accepted a) units)
    × (a.asked ≡ asked)
IsFoundAlone (FoundRejected units) e = e ≡ ended search.rejected units
IsFoundAlone FoundSpent e = e ≡ spent
