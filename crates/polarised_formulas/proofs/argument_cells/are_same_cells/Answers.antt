use Rattle.std.proofs.Common.{rules, ◌≡◌, ◌<◌, ◌++◌, length}
use Rattle.polarised_formulas.specs.ArgumentCells.{cells_from, piece_cells, piece_of}
use Rattle.polarised_formulas.proofs.ArgumentFacts.{along, same_after}
use Rattle.polarised_formulas.proofs.argument_cells.are_same_cells.Goals as goal

pub loop-node-preserved : goal.loop-node-preserved
loop-node-preserved c =
    let ts = c.args.terms.now in
    let ns = c.argument_nodes-node-items.result.now in
    let i = c.loop-node.node-index in
    let h : i < length ns = search rules in
    let own = along ts c.args.a.now ns i c.in-Inside.cell c.node-item.result h c.node-item.is c.in-Inside.is in
    let other : cells_from ts c.args.b.now c.loop-node.place.term.now c.loop-node.place.nodes.now
    ≡ piece_cells ts (piece_of c.args.a.now c.in-Inside.cell) ++ cells_from ts c.args.b.now c.in-Some.behind.term.now c.in-Some.behind.nodes.now =
    rw c.piece_of.ensures.value at c.in-Some.ensures.some in
    let p = same_after _ _ _ _ _ own other in
    ((λ e. p.1 (c.loop-node.invariant.0 e)), (λ e. c.loop-node.invariant.1 (p.0 e)))
