use Rattle.std.proofs.Common.{true, false, sym, ◌∙◌, refl}
use Rattle.polarised_formulas.proofs.UnfinishedFacts.{IsOf-now, whole-from_IsOf, not_whole-from_IsOf, wants-not_whole}
use Rattle.polarised_formulas.proofs.builder.FormulaBuilder.take.Goals as goal
use Rattle.polarised_formulas.proofs.builder.FormulaBuilder.take.Goals.{then-not-self-via-then-not-self, then-not-self-via-else-not-self+then-len-quantifiers}

pub returns-then-not-self : goal.returns-then-not-self
returns-then-not-self c = elim c.then-not-self.branch [
  | then-not-self-via-then-not-self w ↦
      let h = IsOf-now c.self.inside.nodes.items c.self.inside.around c.self.inside.is_whole false c.args.self.now c.self.invariant c.self.view_is w.if-not-self.true in
      sym (wants-not_whole c.self.inside.nodes.items c.self.inside.around c.args.self.now h)
  | then-not-self-via-else-not-self+then-len-quantifiers w ↦
      let h = IsOf-now c.self.inside.nodes.items c.self.inside.around c.self.inside.is_whole c.self.inside.is_whole c.args.self.now c.self.invariant c.self.view_is refl in
      sym (not_whole-from_IsOf c.self.inside.nodes.items c.self.inside.around c.self.inside.is_whole c.args.self.now h (λ e. w.if-len-quantifiers.true (w.len.ensures ∙ e ∙ sym w.quantifiers.ensures)))
]

pub from_node_list-requires : goal.from_node_list-requires
from_node_list-requires c =
    let h = IsOf-now c.self.inside.nodes.items c.self.inside.around c.self.inside.is_whole true c.args.self.now c.self.invariant c.self.view_is c.if-not-self.false in
    let all = sym c.len.ensures ∙ c.if-len-quantifiers.false ∙ c.quantifiers.ensures in
    rw c.replace-nodes.ensures.value (whole-from_IsOf c.self.inside.nodes.items c.self.inside.around c.args.self.now h all).0

pub returns : goal.returns
returns c =
    let h = IsOf-now c.self.inside.nodes.items c.self.inside.around c.self.inside.is_whole true c.args.self.now c.self.invariant c.self.view_is c.if-not-self.false in
    let all = sym c.len.ensures ∙ c.if-len-quantifiers.false ∙ c.quantifiers.ensures in
    let found = (whole-from_IsOf c.self.inside.nodes.items c.self.inside.around c.args.self.now h all).1 in
    rw (found, c.from_node_list.ensures, c.replace-nodes.ensures.value) refl
