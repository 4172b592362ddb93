use Rattle.std.proofs.Common.{◌≡◌, ◌++◌, map}
use Rattle.clause_language.specs.declared.program.Program.{Program}
use Rattle.search_model.specs.Search.{extended}
use Rattle.search_model.specs.States.{alternative_of, alternatives_of, list_of}
use Rattle.search_model.proofs.calls.push_all_extended.Given as goal

abbrev pub invariant-loop-list : goal.invariant-loop-list
invariant-loop-list g l = (p : Program)
    → map (extended (alternative_of (g.C.Calculus.sequent_of p) l.rest)) (map (list_of (g.C.Calculus.sequent_of p)) l.lists.items) ++ alternatives_of (g.C.Calculus.sequent_of p) l.stack.items
    ≡ map (extended (alternative_of (g.C.Calculus.sequent_of p) l.rest)) (map (list_of (g.C.Calculus.sequent_of p)) l.initial.lists.items) ++ alternatives_of (g.C.Calculus.sequent_of p) l.initial.stack.items

abbrev pub decreases-loop-list : goal.decreases-loop-list
decreases-loop-list g l = l.lists.len
