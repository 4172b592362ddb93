use Rattle.std.proofs.Common.{◌≡◌, ◌≤◌, ◌++◌, map, drop, length}
use Rattle.clause_language.specs.declared.program.Program.{Program}
use Rattle.clause_language.specs.LeastModel.{fits}
use Rattle.search_model.specs.Search.{by_clauses, extended}
use Rattle.search_model.specs.States.{alternative_of, alternatives_of}
use Rattle.search_model.specs.Table.{calculus_of}
use Rattle.search_model.proofs.calls.push_all_answered.Given as goal

abbrev pub invariant-loop-n : goal.invariant-loop-n
invariant-loop-n g l =
    ((p : Program) → alternatives_of (g.C.Calculus.sequent_of p) l.stack.items
    ≡ map (extended (alternative_of (g.C.Calculus.sequent_of p) l.rest)) (by_clauses (calculus_of (g.C.Calculus.table p)) fits l.atom (length l.rest.levels.items) (drop l.n l.clauses))
    ++ alternatives_of (g.C.Calculus.sequent_of p) l.initial.stack.items)
    × (l.n ≤ length l.clauses)

abbrev pub decreases-loop-n : goal.decreases-loop-n
decreases-loop-n g l = l.n
