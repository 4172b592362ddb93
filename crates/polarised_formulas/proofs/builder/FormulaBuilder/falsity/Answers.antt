use Rattle.std.proofs.Common.{true, false}
use Rattle.polarised_formulas.specs.Formula.{falsity}
use Rattle.polarised_formulas.specs.Unfinished.{placed, IsOf}
use Rattle.polarised_formulas.proofs.UnfinishedFacts.{IsOf-now, IsOf-placed, value-from_IsOf, invariant-from_IsOf}
use Rattle.polarised_formulas.proofs.builder.FormulaBuilder.falsity.Goals as goal

-- what the fields are at the end
done : (c : goal.After-self-1) → IsOf c.push.new.self.items c.self.inside.around true (placed (falsity c.args.polarity) c.args.self.now)
done c =
    let h = IsOf-now c.self.inside.nodes.items c.self.inside.around c.self.inside.is_whole false c.args.self.now c.self.invariant c.self.view_is c.if-self.false in
    rw c.in_ok-push.ensures.items (IsOf-placed (falsity c.args.polarity) c.self.inside.nodes.items c.self.inside.around c.args.self.now h)

pub invariant_of-self-2 : goal.invariant_of-self-2
invariant_of-self-2 c = invariant-from_IsOf c.push.new.self.items c.self.inside.around true (placed (falsity c.args.polarity) c.args.self.now) (done c)

pub returns-clause-ok : goal.returns-clause-ok
returns-clause-ok c = value-from_IsOf c.push.new.self.items c.self.inside.around true (placed (falsity c.args.polarity) c.args.self.now) (done c)
