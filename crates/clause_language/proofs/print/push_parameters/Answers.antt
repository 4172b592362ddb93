use Rattle.std.proofs.Common.{rules, ◌+◌, ◌-◌, ◌<◌, ◌∷◌, ◌++◌, [], sym, ap, ◌∙◌}
use Rattle.clause_language.specs.Text.{parameter_text, more_parameters_before}
use Rattle.clause_language.proofs.PrintFacts.{pieces, one-parameter}
use Rattle.clause_language.proofs.print.push_parameters.Goals as goal

pub loop-k-preserved : goal.loop-k-preserved
loop-k-preserved c =
    let low : c.loop-k.k < c.args.parameters = search rules in
    rw (c.in_ok-push_number-2.ensures.ok, c.in_ok-push-2.ensures.items)
    (pieces c.loop-k.out.items (44 ∷ []) (parameter_text c.loop-k.k) (more_parameters_before (c.loop-k.k + 1) (c.args.parameters - (c.loop-k.k + 1)) [])
    ∙ ap (λ bytes. c.loop-k.out.items ++ bytes) (sym (one-parameter c.loop-k.k c.args.parameters low)) ∙ c.loop-k.invariant)
