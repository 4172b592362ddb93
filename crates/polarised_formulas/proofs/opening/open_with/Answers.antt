use Rattle.std.proofs.Common.{◌≡◌, arith, drop}
use Rattle.polarised_formulas.specs.Formula.{nodes_of}
use Rattle.polarised_formulas.proofs.OpenedFacts.{are_finished}
use Rattle.polarised_formulas.proofs.opening.open_with.Goals as goal

pub from_node_list-requires : goal.from_node_list-requires
from_node_list-requires c =
    let body : c.split_at.result.1.now ≡ drop 1 (nodes_of c.args.f.now) = rw (c.split_at.ensures.back, c.nodes.ensures) in
    let h = are_finished c.args.t.now c.args.f.now c.loop-node.opening.nodes.items c.split_at.result.1.now c.loop-node.opening.depth c.loop-node.opening.pending
    c.loop-node.node-index c.requires.quantified body (omega arith) c.loop-node-test.false c.loop-node.invariant
    in
    h.one

pub returns : goal.returns
returns c =
    let body : c.split_at.result.1.now ≡ drop 1 (nodes_of c.args.f.now) = rw (c.split_at.ensures.back, c.nodes.ensures) in
    let h = are_finished c.args.t.now c.args.f.now c.loop-node.opening.nodes.items c.split_at.result.1.now c.loop-node.opening.depth c.loop-node.opening.pending
    c.loop-node.node-index c.requires.quantified body (omega arith) c.loop-node-test.false c.loop-node.invariant
    in
    rw c.from_node_list.ensures h.value
