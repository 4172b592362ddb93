use Rattle.std.proofs.Common.{◌∙◌}
use Rattle.search_model.specs.Search.{extended}
use Rattle.search_model.specs.States.{alternative_of, alternatives_of, list_of}
use Rattle.search_model.proofs.StateFacts.{alternatives-push, moved}
use Rattle.search_model.proofs.calls.push_all_extended.Goals as goal

pub loop-list-preserved : goal.loop-list-preserved
loop-list-preserved g c = λ p.
    let of = g.C.Calculus.sequent_of p in
    moved (extended (alternative_of of c.args.rest.now)) (list_of of) c.pop.new.self.items c.loop-list.lists.items c.in-Some.list
    (alternatives_of of c.loop-list.stack.items) (alternatives_of of c.push.new.self.items) c.in-Some.ensures.items
    (alternatives-push of c.loop-list.stack.items c.push.new.self.items c.in_ok-extended.field-0 _ c.in_ok-push.ensures.items (c.in_ok-extended.ensures p))
    ∙ c.loop-list.invariant p
