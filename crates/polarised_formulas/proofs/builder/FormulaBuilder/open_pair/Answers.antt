use Rattle.std.proofs.Common.{◌≡◌, false, arith, length}
use Rattle.std.proofs.lemmas.Grind.{common_steps}
use Rattle.polarised_formulas.specs.Unfinished.{opened, IsOf}
use Rattle.polarised_formulas.proofs.UnfinishedFacts.{IsOf-now, IsOf-opened, value-from_IsOf, invariant-from_IsOf}
use Rattle.polarised_formulas.proofs.builder.FormulaBuilder.open_pair.Goals as goal

-- what the fields are at the end
done : (c : goal.In_ok-push-2) → IsOf c.push-2.new.self.items c.push.new.self false (opened c.args.self.now)
done c =
    let h = IsOf-now c.self.inside.nodes.items c.self.inside.around c.self.inside.is_whole false c.args.self.now c.self.invariant c.self.view_is c.if-self.false in
    let place : c.len-place.result ≡ length c.self.inside.nodes.items = grind (arith, common_steps) in
    rw (c.in_ok-push-2.ensures.items, c.in_ok-push.ensures.ok, c.reserve.ensures.items, place) (IsOf-opened c.self.inside.nodes.items c.self.inside.around c.args.self.now h)

pub invariant_of-self-2 : goal.invariant_of-self-2
invariant_of-self-2 c = rw c.if-self.false (invariant-from_IsOf c.push-2.new.self.items c.push.new.self false (opened c.args.self.now) (done c))

pub returns-clause-ok : goal.returns-clause-ok
returns-clause-ok c = rw c.if-self.false (value-from_IsOf c.push-2.new.self.items c.push.new.self false (opened c.args.self.now) (done c))
