use Rattle.std.proofs.Common.{◌≡◌, Some}
use Rattle.polarised_formulas.specs.Formula.{formula_of, parts_of}
use Rattle.polarised_formulas.proofs.PartFacts.{holds_parts}
use Rattle.polarised_formulas.proofs.parts.parts.Goals as goal

pub length_of_first-requires : goal.length_of_first-requires
length_of_first-requires c = let h = holds_parts c.args.f.now c.requires in rw (c.split_at.ensures.back, c.nodes.ensures) h.few

pub split_at-requires-2 : goal.split_at-requires-2
split_at-requires-2 c = let h = holds_parts c.args.f.now c.requires in rw (c.length_of_first.ensures, c.split_at.ensures.back, c.nodes.ensures) h.within

pub from_nodes-requires : goal.from_nodes-requires
from_nodes-requires c =
    let h = holds_parts c.args.f.now c.requires in rw (c.split_at-2.ensures.front, c.length_of_first.ensures, c.split_at.ensures.back, c.nodes.ensures) h.first

pub from_nodes-requires-2 : goal.from_nodes-requires-2
from_nodes-requires-2 c =
    let h = holds_parts c.args.f.now c.requires in rw (c.split_at-2.ensures.back, c.length_of_first.ensures, c.split_at.ensures.back, c.nodes.ensures) h.second

pub returns : goal.returns
returns c =
    let h = holds_parts c.args.f.now c.requires in
    let e : parts_of c.args.f.now ≡ Some (formula_of c.split_at-2.result.0.now, formula_of c.split_at-2.result.1.now) =
    rw (c.split_at-2.ensures.front, c.split_at-2.ensures.back, c.length_of_first.ensures, c.split_at.ensures.back, c.nodes.ensures) h.both
    in
    rw (c.in_ok-first.ensures, c.in_ok-second.ensures) e
