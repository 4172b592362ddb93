use Rattle.std.proofs.Common.{◌∙◌}
use Rattle.search_model.specs.GoalItems.{chosen_in}
use Rattle.search_model.specs.States.{alternative_of, alternatives_of}
use Rattle.search_model.proofs.ChosenFacts.{chosen-lists}
use Rattle.search_model.proofs.search.take_chosen.Goals as goal

pub returns : goal.returns
returns g c =
    let p = c.args.program.now in
    let of = g.C.Calculus.sequent_of p in
    chosen-lists (g.C.Calculus.table p) of (chosen_in c.args.item.now) c.push_all_extended.result c.in_ok-lists.lists c.len-fresh.result _
    (alternative_of of c.args.first.now) (alternatives_of of c.push_all_extended.new.stack.items) (alternatives_of of c.args.stack.now.items)
    (c.len-fresh.ensures ∙ c.args.first.now.levels.ok.0) c.in_ok-lists.ensures (c.push_all_extended.ensures p)
