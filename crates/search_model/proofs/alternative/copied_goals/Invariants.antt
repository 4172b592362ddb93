use Rattle.std.proofs.Common.{◌≡◌, map, take}
use Rattle.clause_language.specs.declared.program.Program.{Program}
use Rattle.search_model.specs.States.{goal_of}
use Rattle.search_model.proofs.alternative.copied_goals.Given as goal

abbrev pub invariant-loop-goal : goal.invariant-loop-goal
invariant-loop-goal g l = (p : Program)
    → map (goal_of (g.C.Calculus.sequent_of p)) l.copies.items ≡ map (goal_of (g.C.Calculus.sequent_of p)) (take l.goal-index l.goals)
