use Rattle.std.proofs.Common.{◌≡◌, map, take}
use Rattle.fpc_terms.specs.Open.{at_one}
use Rattle.clause_language.specs.declared.program.Program.{Program}
use Rattle.search_model.specs.Search.{put_goal}
use Rattle.search_model.specs.States.{goal_of}
use Rattle.search_model.specs.Table.{calculus_of}
use Rattle.search_model.proofs.alternative.bound_goals.Given as goal

abbrev pub invariant-loop-goal : goal.invariant-loop-goal
invariant-loop-goal g l = (p : Program)
    → map (goal_of (g.C.Calculus.sequent_of p)) l.bound.items
    ≡ map (put_goal (calculus_of (g.C.Calculus.table p)) (at_one l.variable l.term)) (map (goal_of (g.C.Calculus.sequent_of p)) (take l.goal-index l.goals))
