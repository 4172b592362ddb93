use Rattle.std.proofs.Common.{rules, ◌≡◌, length}
use Rattle.polarised_formulas.specs.Formula.{nodes_of}
use Rattle.polarised_formulas.proofs.AtFacts.{nodes_made}
use Rattle.polarised_formulas.proofs.closure.Closure.nodes.Goals as goal

pub returns-clause-value : goal.returns-clause-value
returns-clause-value g c =
    let d1 : c.deref.result.now ≡ c.self.inside.root.value = search rules in
    let d2 : c.deref-2.result.now ≡ c.self.inside.root.value = search rules in
    rw (← c.self.view_is, c.split_at-2.ensures.back, c.split_at.ensures.front, c.nodes.ensures, c.end_of-end.ensures.value, d1, d2)
    (nodes_made (nodes_of c.self.inside.root.value.tree) c.self.inside.from (length c.self.inside.opened) (length c.self.inside.root.value.parameters) c.self.invariant)
