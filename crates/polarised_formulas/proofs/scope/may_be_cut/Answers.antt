use Rattle.std.proofs.Common.{arith}
use Rattle.polarised_formulas.proofs.ScopeNodes.{may_be_cut-passed, may_be_cut-stopped}
use Rattle.polarised_formulas.proofs.scope.may_be_cut.Goals as goal

pub returns-then-not-is_cut_node : goal.returns-then-not-is_cut_node
returns-then-not-is_cut_node c =
    may_be_cut-stopped c.args.logic c.args.level c.args.f.now c.nodes-nodes.result.now c.loop-node.walk.depth c.loop-node.walk.pending c.loop-node.node-index c.node-item.result
    c.nodes-nodes.ensures (omega arith) c.loop-node-test.true c.node-item.is (cc) c.loop-node.invariant

pub returns : goal.returns
returns c =
    may_be_cut-passed c.args.logic c.args.level c.args.f.now c.nodes-nodes.result.now c.loop-node.walk.depth c.loop-node.walk.pending c.loop-node.node-index c.nodes-nodes.ensures
    (omega arith) c.loop-node-test.false c.loop-node.invariant
