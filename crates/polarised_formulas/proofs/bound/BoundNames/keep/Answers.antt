use Rattle.std.proofs.Common.{sym, ◌∙◌}
use Rattle.polarised_formulas.proofs.BoundFacts.{outermost-all}
use Rattle.polarised_formulas.proofs.bound.BoundNames.keep.Goals as goal

pub returns : goal.returns
returns c =
    let n = c.leave_one.ensures.none (λ t. let f = c.loop-test.false in cc) in
    n.0 ∙ sym (c.loop.invariant ∙ outermost-all c.args.count _ n.1)
