use Rattle.std.proofs.Common.{◌≡◌, true, ap, ◌∙◌}
use Rattle.polarised_formulas.specs.Unfinished.{left, closed, takes_close, unders_left, begins_second, IsOf}
use Rattle.polarised_formulas.proofs.UnfinishedFacts.{IsOf-now, IsOf-left, IsOf-closed, value-from_IsOf, invariant-from_IsOf}
use Rattle.polarised_formulas.proofs.builder.FormulaBuilder.close.Goals as goal

-- what the fields are at the end
done : (c : goal.After-leave_second) → IsOf c.self.inside.nodes.items c.leave_second.new.self true (closed (left c.args.self.now)) × (c.leave_second.result ≡ takes_close (left c.args.self.now))
done c =
    let h = IsOf-now c.self.inside.nodes.items c.self.inside.around c.self.inside.is_whole true c.args.self.now c.self.invariant c.self.view_is c.if-not-self.false in
    let out = IsOf-left c.self.inside.nodes.items c.self.inside.around c.args.self.now h in
    let end = IsOf-closed c.self.inside.nodes.items (unders_left c.self.inside.around) (left c.args.self.now) out in
    (rw (c.leave_second.ensures.others, c.leave_quantifiers.ensures) end.0, c.leave_second.ensures.answer ∙ ap begins_second c.leave_quantifiers.ensures ∙ end.1)

pub invariant_of-self : goal.invariant_of-self
invariant_of-self c = rw c.if-not-self.false (invariant-from_IsOf c.self.inside.nodes.items c.leave_second.new.self true (closed (left c.args.self.now)) (done c).0)

pub returns-clause-answer : goal.returns-clause-answer
returns-clause-answer c = (done c).1

pub returns-clause-value : goal.returns-clause-value
returns-clause-value c = rw c.if-not-self.false (value-from_IsOf c.self.inside.nodes.items c.leave_second.new.self true (closed (left c.args.self.now)) (done c).0)
