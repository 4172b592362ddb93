use Rattle.std.proofs.Common.{◌≡◌, ◌+◌, ◌≤◌, length, arith}
use Rattle.polarised_formulas.proofs.AtFacts.{sizes-step, sizes-room, length-sizes}
use Rattle.polarised_formulas.proofs.tree.length_of.Goals as goal

pub overflow_add-total : goal.overflow_add-total
overflow_add-total c =
    let r : c.loop-i.total + c.size_or-total.result ≤ length c.args.nodes.now =
    rw (c.size_or-total.ensures, c.requires) (sizes-room c.args.nodes.now c.loop-i.total c.loop-i.i c.loop-i.invariant) in
    let l : length c.args.sizes.now ≡ length c.args.nodes.now = rw c.requires (length-sizes c.args.nodes.now) in
    omega arith

pub loop-i-preserved : goal.loop-i-preserved
loop-i-preserved c = rw (c.size_or-total.ensures, c.requires) (sizes-step c.args.nodes.now c.loop-i.total c.loop-i.i c.loop-i.invariant)
