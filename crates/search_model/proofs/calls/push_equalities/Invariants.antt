use Rattle.std.proofs.Common.{◌≡◌, ◌≤◌, drop, length}
use Rattle.clause_language.specs.declared.program.Program.{Program}
use Rattle.search_model.specs.Search.{equalities}
use Rattle.search_model.specs.States.{goals_of}
use Rattle.search_model.proofs.calls.push_equalities.Given as goal

abbrev pub invariant-loop-n : goal.invariant-loop-n
invariant-loop-n g l =
    ((p : Program) → goals_of (g.C.Calculus.sequent_of p) l.goals.items ≡ equalities (drop l.n l.left) (drop l.n l.right) (goals_of (g.C.Calculus.sequent_of p) l.initial.goals.items))
    × (l.n ≤ length l.left)

abbrev pub decreases-loop-n : goal.decreases-loop-n
decreases-loop-n g l = l.n
