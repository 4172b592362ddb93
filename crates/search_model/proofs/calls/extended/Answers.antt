use Rattle.std.proofs.Common.{◌∙◌, ◌++◌, ap}
use Rattle.search_model.specs.States.{alternative_of, goals_of}
use Rattle.search_model.proofs.StateFacts.{extended-is}
use Rattle.search_model.proofs.calls.extended.Goals as goal

pub returns : goal.returns
returns g c = λ p.
    let of = g.C.Calculus.sequent_of p in
    extended-is of c.args.list (alternative_of of c.args.rest.now) (alternative_of of c.in_ok-next.next) (goals_of of c.push_goals.new.goals.items) c.extend_from_slice.new.self.items
    (c.in_ok-next.ensures p) (c.in_ok-push_goals.ensures p)
    (c.in_ok-extend_from_slice.ensures.items ∙ ap (λ ls. c.in_ok-next.next.levels.items ++ ls) c.as_slice.ensures.value)
