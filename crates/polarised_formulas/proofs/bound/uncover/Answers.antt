use Rattle.std.proofs.Common.{None, Some}
use Rattle.std.proofs.lemmas.Map.Text.{btree_map_updates_str}
use Rattle.polarised_formulas.proofs.bound.uncover.Goals as goal

pub returns-in-Some-get_mut : goal.returns-in-Some-get_mut
returns-in-Some-get_mut c = λ text.
    let written = c.get_mut.follows.holds c.in-Some.depth in
    rw c.in-Some.is (btree_map_updates_str c.args.level.text.now c.args.depths.now (c.get_mut.follows.lender c.in-Some.depth) (Some c.in-Some.depth) (written.3 c.requires) text)

pub returns-in-None : goal.returns-in-None
returns-in-None c = λ text. rw c.in-None.is (btree_map_updates_str c.args.level.text.now c.args.depths.now c.remove.new.self None c.remove.ensures.updates text)
