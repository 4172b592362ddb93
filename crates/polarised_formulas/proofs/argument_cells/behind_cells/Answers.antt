use Rattle.std.proofs.Common.{rules, ◌≡◌, ◌<◌, ◌∷◌, ◌∙◌, sym, length}
use Rattle.polarised_formulas.specs.ArgumentCells.{cells_from}
use Rattle.polarised_formulas.proofs.ArgumentFacts.{alike}
use Rattle.polarised_formulas.proofs.argument_cells.behind_cells.Goals as goal

pub returns-then-ne-clause-none : goal.returns-then-ne-clause-none
returns-then-ne-clause-none c = λ z rest e.
    let h : c.loop-cell.cell-index < length c.args.cells.now = search rules in
    let s : cells_from c.args.terms.now c.args.closure.now c.loop-cell.place.term.now c.loop-cell.place.nodes.now
    ≡ c.in-Some.own ∷ cells_from c.args.terms.now c.args.closure.now c.in-Some.behind.term.now c.in-Some.behind.nodes.now = search rules in
    let apart : c.in-Some.own ≡ c.cell-item.result → ⊥ = search rules in
    apart (alike c.args.cells.now c.loop-cell.cell-index rest _ c.in-Some.own c.cell-item.result h (rw s at (sym c.loop-cell.invariant ∙ e)) ∙ sym c.cell-item.is)
