use Rattle.std.proofs.Common.{◌≡◌, ◌∙◌, ◌++◌, OnOk, map, sym, subst, ap}
use Rattle.search_model.specs.GoalItems.{list_in, list_over}
use Rattle.search_model.specs.Search.{extended}
use Rattle.search_model.specs.States.{alternative_of, alternatives_of}
use Rattle.search_model.specs.Table.{derive}
use Rattle.search_model.proofs.StateFacts.{map-map}
use Rattle.search_model.proofs.search.take_sequent.Goals as goal

pub returns : goal.returns
returns g c =
    let p = c.args.program.now in
    let of = g.C.Calculus.sequent_of p in
    subst (λ ls. OnOk c.push_all_extended.result (alternatives_of of c.push_all_extended.new.stack.items ≡ map (extended (alternative_of of c.args.first.now)) ls ++ alternatives_of of c.args.stack.now.items))
    (sym (map-map (list_over of) list_in c.in_ok-lists.lists.lists.items) ∙ c.in_ok-lists.ensures
    ∙ ap ((g.C.Calculus.table p).expand (derive c.args.goal.now.certificate c.args.goal.now.level (of c.args.goal.now.sequent))) (c.len-fresh.ensures ∙ c.args.first.now.levels.ok.0))
    (c.push_all_extended.ensures p)
