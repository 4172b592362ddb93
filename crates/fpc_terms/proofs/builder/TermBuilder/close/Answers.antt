use Rattle.std.proofs.Common.{refl}
use Rattle.fpc_terms.specs.Partial.{closed, IsPartial, IsCount}
use Rattle.fpc_terms.proofs.BuilderFacts.{IsPartial-at, IsCount-from, closing, value-from_IsPartial, invariant-from_IsPartial}
use Rattle.fpc_terms.proofs.builder.TermBuilder.close.Goals as goal

-- what the fields are at the end
ended : (c : goal.After-self-1) → IsPartial c.count_term.new.cells.items c.pop.new.self c.count_term.new.whole (closed c.args.self.now.base c.args.self.now.frames)
ended c =
    let h = IsPartial-at c.self.inside.cells.items c.self.inside.places c.self.inside.whole c.args.self.now c.self.invariant.0 c.self.view_is in
    let top = c.if-pop.ensures.some refl in
    closing c.self.inside.cells.items c.count_term.new.cells.items c.self.inside.places top.0 c.pop.new.self c.self.inside.whole c.count_term.new.whole c.args.self.now.base c.args.self.now.frames h top.1 c.count_term.ensures

counted : (c : goal.After-self-1) → IsCount c.innermost-self-inside.result (closed c.args.self.now.base c.args.self.now.frames)
counted c = c.innermost-self-inside.ensures _ _ (rw c.as_slice.ensures.value (ended c))

pub invariant_of-self : goal.invariant_of-self
invariant_of-self c = (invariant-from_IsPartial _ _ _ _ (ended c), IsCount-from _ _ _ _ _ (ended c) (counted c))

pub returns-then-pop : goal.returns-then-pop
returns-then-pop c = value-from_IsPartial _ _ c.count_term.new.whole _ (ended c)
