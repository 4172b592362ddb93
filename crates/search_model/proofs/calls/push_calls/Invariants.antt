use Rattle.std.proofs.Common.{◌≡◌, ◌≤◌, ◌++◌, map, drop, length}
use Rattle.fpc_terms.specs.Open.{later}
use Rattle.clause_language.specs.declared.program.Program.{Program}
use Rattle.clause_language.specs.LeastModel.{put_atom}
use Rattle.search_model.specs.Search.{call}
use Rattle.search_model.specs.States.{goals_of}
use Rattle.search_model.proofs.calls.push_calls.Given as goal

abbrev pub invariant-loop-n : goal.invariant-loop-n
invariant-loop-n g l =
    ((p : Program) → goals_of (g.C.Calculus.sequent_of p) l.goals.items ≡ map (λ b. call (put_atom (later l.offset) b)) (drop l.n l.body) ++ goals_of (g.C.Calculus.sequent_of p) l.initial.goals.items)
    × (l.n ≤ length l.body)

abbrev pub decreases-loop-n : goal.decreases-loop-n
decreases-loop-n g l = l.n
