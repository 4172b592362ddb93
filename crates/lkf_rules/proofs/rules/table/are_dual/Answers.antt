use Rattle.std.proofs.Common.{◌≡◌, sym, ap, ◌∙◌, rules}
use Rattle.polarised_formulas.specs.Nodes.{node_dual}
use Rattle.lkf_rules.proofs.InitialFacts.{closes-alike, closes-unlike}
use Rattle.lkf_rules.proofs.rules.table.are_dual.Goals as goal

pub returns-then-eq : goal.returns-then-eq
returns-then-eq g c =
    let same : node_dual c.shape.result ≡ c.shape-2.result = search rules in
    λ name args is. closes-alike name args (g.F.HeldFormula.stands c.args.terms.now c.args.literal.now) (g.F.HeldFormula.stands c.args.terms.now c.args.other.now) c.has_arguments_of.result is
    (ap node_dual (sym (c.shape.ensures c.args.terms.now)) ∙ same ∙ c.shape-2.ensures c.args.terms.now) c.has_arguments_of.ensures

pub returns-else-eq : goal.returns-else-eq
returns-else-eq g c =
    let differ : node_dual c.shape.result ≡ c.shape-2.result → ⊥ = search rules in
    λ name args is. rw c.if-eq.false (closes-unlike name args (g.F.HeldFormula.stands c.args.terms.now c.args.literal.now) (g.F.HeldFormula.stands c.args.terms.now c.args.other.now) is
    (λ e. differ (ap node_dual (c.shape.ensures c.args.terms.now) ∙ e ∙ sym (c.shape-2.ensures c.args.terms.now))))
