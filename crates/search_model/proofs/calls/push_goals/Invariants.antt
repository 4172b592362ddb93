use Rattle.std.proofs.Common.{◌≡◌, ◌++◌, map}
use Rattle.clause_language.specs.declared.program.Program.{Program}
use Rattle.search_model.specs.States.{goal_of, goals_of}
use Rattle.search_model.proofs.calls.push_goals.Given as goal

abbrev pub invariant-loop-item : goal.invariant-loop-item
invariant-loop-item g l = (p : Program)
    → map (goal_of (g.C.Calculus.sequent_of p)) l.items.items ++ goals_of (g.C.Calculus.sequent_of p) l.goals.items
    ≡ map (goal_of (g.C.Calculus.sequent_of p)) l.initial.items.items ++ goals_of (g.C.Calculus.sequent_of p) l.initial.goals.items

abbrev pub decreases-loop-item : goal.decreases-loop-item
decreases-loop-item g l = l.items.len
