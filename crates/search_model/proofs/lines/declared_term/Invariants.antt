use Rattle.std.proofs.Common.{◌≡◌, ◌-◌, ◌++◌, ◌∷◌}
use Rattle.fpc_terms.specs.declared.cell.Cell.TheVariants.{App}
use Rattle.search_model.proofs.LineTerms.{cells_left}
use Rattle.search_model.proofs.lines.declared_term.Given as goal

abbrev pub invariant-loop-k : goal.invariant-loop-k
invariant-loop-k l =
    l.cells.items ++ cells_left l.fresh l.k (l.parameters - l.k)
    ≡ App l.fn.name l.parameters ∷ cells_left l.fresh 0 l.parameters
