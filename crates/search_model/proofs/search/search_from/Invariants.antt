use Rattle.std.proofs.Common.{◌≡◌, ◌≤◌, ◌-◌, ◌∷◌, []}
use Rattle.search_model.specs.Search.{between}
use Rattle.search_model.specs.States.{alternative_of, alternatives_of, raise, running}
use Rattle.search_model.specs.Table.{calculus_of}
use Rattle.search_model.proofs.Fine.{AreFine}
use Rattle.search_model.proofs.ItemLevels.{AreLow}
use Rattle.search_model.proofs.LoopFacts.{AnyEnd}
use Rattle.search_model.proofs.search.search_from.Given as goal

abbrev pub invariant-loop-stack : goal.invariant-loop-stack
invariant-loop-stack g l =
    (running (calculus_of (g.C.Calculus.table l.program)) l.program.clauses l.budget (between (alternative_of (g.C.Calculus.sequent_of l.program) l.fn.first ∷ []))
    ≡ raise (l.budget - l.left) (running (calculus_of (g.C.Calculus.table l.program)) l.program.clauses l.left (between (alternatives_of (g.C.Calculus.sequent_of l.program) l.stack.items))))
    × (l.left ≤ l.budget)
    × AreLow (g.C.Calculus.table l.program) (l.budget - l.left) (alternatives_of (g.C.Calculus.sequent_of l.program) l.stack.items)
    × AreFine (calculus_of (g.C.Calculus.table l.program)) l.program.clauses (AnyEnd (calculus_of (g.C.Calculus.table l.program)) l.program.clauses) (alternatives_of (g.C.Calculus.sequent_of l.program) l.stack.items)

abbrev pub decreases-loop-stack : goal.decreases-loop-stack
decreases-loop-stack g l = l.left
