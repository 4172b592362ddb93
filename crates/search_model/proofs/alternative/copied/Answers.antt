use Rattle.std.proofs.Common.{◌∙◌, ap, map}
use Rattle.search_model.specs.States.{goal_of}
use Rattle.search_model.proofs.StateFacts.{copied-is}
use Rattle.search_model.proofs.alternative.copied.Goals as goal

pub returns : goal.returns
returns g c = λ p.
    let of = g.C.Calculus.sequent_of p in
    copied-is of c.args.alternative.now c.in_ok-copied_goals.field-0.items c.in_ok-copied_steps.field-0.items c.in_ok-copied_terms.field-0 c.in_ok-copied_levels.field-0.items
    (c.in_ok-copied_goals.ensures p ∙ ap (map (goal_of of)) c.as_slice.ensures.value)
    (c.in_ok-copied_steps.ensures ∙ c.as_slice-2.ensures.value)
    c.in_ok-copied_terms.ensures c.in_ok-copied_levels.ensures
