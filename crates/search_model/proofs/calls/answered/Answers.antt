use Rattle.std.proofs.Common.{◌∙◌}
use Rattle.search_model.specs.States.{alternative_of, goals_of}
use Rattle.search_model.specs.Table.{calculus_of}
use Rattle.search_model.proofs.CallFacts.{answered-is}
use Rattle.search_model.proofs.calls.answered.Goals as goal

pub returns : goal.returns
returns g c = λ p.
    let of = g.C.Calculus.sequent_of p in
    answered-is (calculus_of (g.C.Calculus.table p)) (alternative_of of c.args.rest.now) c.args.atom.now c.args.clause.now c.len-offset.result c.in_ok-head.head
    (alternative_of of c.in_ok-next.next) (goals_of of c.push_calls.new.goals.items) (goals_of of c.push_equalities.new.goals.items) c.push_variables.new.levels.items
    (c.in_ok-next.ensures p)
    (c.len-offset.ensures ∙ c.in_ok-next.next.levels.ok.0)
    (rw (c.items.ensures) at c.in_ok-head.ensures)
    (rw (c.items-2.ensures) at (c.in_ok-push_calls.ensures p))
    (rw (c.items-3.ensures, c.items-4.ensures) at (c.in_ok-push_equalities.ensures p))
    c.in_ok-push_variables.ensures
