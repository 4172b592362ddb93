use Rattle.std.proofs.Common.{true, false, refl}
use Rattle.fpc_terms.specs.Partial.{arguments_of}
use Rattle.polarised_formulas.specs.Formula.{atom}
use Rattle.polarised_formulas.specs.Unfinished.{placed, IsOf}
use Rattle.polarised_formulas.proofs.UnfinishedFacts.{IsOf-now, IsOf-placed, value-from_IsOf, invariant-from_IsOf}
use Rattle.polarised_formulas.proofs.builder.FormulaBuilder.literal.Goals as goal

-- what the fields are at the end
done : (c : goal.After-self-1) → IsOf c.push_literal.new.nodes.items c.self.inside.around true (placed (atom c.args.positive c.args.name (arguments_of c.args.arguments.now.base)) c.args.self.now)
done c =
    let h = IsOf-now c.self.inside.nodes.items c.self.inside.around c.self.inside.is_whole false c.args.self.now c.self.invariant c.self.view_is c.if-self.false in
    let put = c.in-Ok.ensures.ok (c.if-not-is_closed.ensures.0 refl) in
    rw put (IsOf-placed (atom c.args.positive c.args.name (arguments_of c.args.arguments.now.base)) c.self.inside.nodes.items c.self.inside.around c.args.self.now h)

pub invariant_of-self : goal.invariant_of-self
invariant_of-self c =
    invariant-from_IsOf c.push_literal.new.nodes.items c.self.inside.around true (placed (atom c.args.positive c.args.name (arguments_of c.args.arguments.now.base)) c.args.self.now) (done c)

pub returns-in-Ok-clause-ok : goal.returns-in-Ok-clause-ok
returns-in-Ok-clause-ok c =
    λ _. value-from_IsOf c.push_literal.new.nodes.items c.self.inside.around true (placed (atom c.args.positive c.args.name (arguments_of c.args.arguments.now.base)) c.args.self.now) (done c)
