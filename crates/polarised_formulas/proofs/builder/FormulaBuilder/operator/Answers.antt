use Rattle.std.proofs.Common.{◌≡◌, true, false, ap, sym, ◌∙◌}
use Rattle.polarised_formulas.specs.Unfinished.{left, joined, takes_joiner, unders_left, first_slot, IsOf}
use Rattle.polarised_formulas.proofs.UnfinishedFacts.{IsOf-now, IsOf-left, IsOf-joined, IsOf-not_joined, value-from_IsOf, invariant-from_IsOf}
use Rattle.polarised_formulas.proofs.builder.FormulaBuilder.operator.Goals as goal

-- what the fields are where the connective was put
done : (c : goal.After-self-1) → IsOf c.put.new.nodes.items c.leave_first.new.self false (joined c.args.joiner (left c.args.self.now)) × (takes_joiner (left c.args.self.now) ≡ true)
done c =
    let h = IsOf-now c.self.inside.nodes.items c.self.inside.around c.self.inside.is_whole true c.args.self.now c.self.invariant c.self.view_is c.if-not-self.false in
    let out = IsOf-left c.self.inside.nodes.items c.self.inside.around c.args.self.now h in
    let place = sym (ap first_slot c.leave_quantifiers.ensures) ∙ sym c.in-Some.ensures.place in
    let end = IsOf-joined c.args.joiner c.self.inside.nodes.items c.put.new.nodes.items (unders_left c.self.inside.around) c.in-Some.place (left c.args.self.now) out place c.put.ensures in
    (rw (c.leave_first.ensures.turned, c.leave_quantifiers.ensures) end.0, end.1)

-- what they are where it does not stand
not_done : (c : goal.In-None) → IsOf c.self.inside.nodes.items c.leave_first.new.self true (joined c.args.joiner (left c.args.self.now)) × (takes_joiner (left c.args.self.now) ≡ false)
not_done c =
    let h = IsOf-now c.self.inside.nodes.items c.self.inside.around c.self.inside.is_whole true c.args.self.now c.self.invariant c.self.view_is c.if-not-self.false in
    let out = IsOf-left c.self.inside.nodes.items c.self.inside.around c.args.self.now h in
    let place = sym (ap first_slot c.leave_quantifiers.ensures) ∙ sym c.in-None.ensures.place in
    let end = IsOf-not_joined c.args.joiner c.self.inside.nodes.items (unders_left c.self.inside.around) (left c.args.self.now) out place in
    (rw (c.leave_first.ensures.turned, c.leave_quantifiers.ensures) end.0, end.1)

pub invariant_of-self : goal.invariant_of-self
invariant_of-self c = invariant-from_IsOf c.put.new.nodes.items c.leave_first.new.self false (joined c.args.joiner (left c.args.self.now)) (done c).0

pub invariant_of-self-in-None : goal.invariant_of-self-in-None
invariant_of-self-in-None c = rw c.if-not-self.false (invariant-from_IsOf c.self.inside.nodes.items c.leave_first.new.self true (joined c.args.joiner (left c.args.self.now)) (not_done c).0)

pub returns-in-Some-clause-answer : goal.returns-in-Some-clause-answer
returns-in-Some-clause-answer c = sym (done c).1

pub returns-in-Some-clause-value : goal.returns-in-Some-clause-value
returns-in-Some-clause-value c = value-from_IsOf c.put.new.nodes.items c.leave_first.new.self false (joined c.args.joiner (left c.args.self.now)) (done c).0

pub returns-in-None-clause-answer : goal.returns-in-None-clause-answer
returns-in-None-clause-answer c = sym (not_done c).1

pub returns-in-None-clause-value : goal.returns-in-None-clause-value
returns-in-None-clause-value c = rw c.if-not-self.false (value-from_IsOf c.self.inside.nodes.items c.leave_first.new.self true (joined c.args.joiner (left c.args.self.now)) (not_done c).0)
