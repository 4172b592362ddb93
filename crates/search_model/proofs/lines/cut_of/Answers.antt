use Rattle.std.proofs.Common.{rules, ◌≤◌, refl}
use Rattle.search_model.proofs.LineTerms.{with_levels}
use Rattle.search_model.proofs.lines.cut_of.Goals as goal

pub returns : goal.returns
returns g c =
    let low : c.loop.counter ≤ c.args.declared.now.parameters = search rules in
    let high : c.args.declared.now.parameters ≤ c.loop.counter = search rules in
    with_levels _ _ _ c.loop.counter c.args.declared.now.parameters c.args.level c.loop.invariant c.in_ok-goals.ensures refl low high
