use Rattle.std.proofs.Common.{rules, ◌≡◌, length, drop}
use Rattle.std.proofs.lemmas.Result.{IfOk-weaker}
use Rattle.polarised_formulas.specs.Formula.{formula_of, nodes_of}
use Rattle.polarised_formulas.specs.Parts.{IsPair}
use Rattle.polarised_formulas.proofs.AtFacts.{left_made}
use Rattle.polarised_formulas.proofs.FillFacts.{stands-left}
use Rattle.polarised_formulas.proofs.closure.Closure.left.Goals as goal

pub sharing-requires : goal.sharing-requires
sharing-requires g c =
    let nodes = nodes_of c.self.inside.root.value.tree in
    let o : c.in_ok-opened.opened ≡ c.self.inside.opened = search rules in
    let q : IsPair (formula_of (drop c.self.inside.from nodes)) = rw (← c.self.view_is) at c.requires in
    let b = left_made nodes c.self.inside.from (length c.self.inside.opened) (length c.self.inside.root.value.parameters) c.self.invariant q in
    rw (c.next_of-from.ensures, o) b.at

pub returns-clause-value : goal.returns-clause-value
returns-clause-value g c =
    let nodes = nodes_of c.self.inside.root.value.tree in
    let o : c.in_ok-opened.opened ≡ c.self.inside.opened = search rules in
    let q : IsPair (formula_of (drop c.self.inside.from nodes)) = rw (← c.self.view_is) at c.requires in
    let b = left_made nodes c.self.inside.from (length c.self.inside.opened) (length c.self.inside.root.value.parameters) c.self.invariant q in
    rw (← c.self.view_is) (rw (c.next_of-from.ensures, b.is, o) at c.sharing.ensures)

pub returns-clause-stands : goal.returns-clause-stands
returns-clause-stands g c =
    IfOk-weaker c.sharing.result _ _ (λ r e ref. rw e (stands-left ref c.args.self.now)) (returns-clause-value g c)
