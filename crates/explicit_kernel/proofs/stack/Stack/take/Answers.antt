use Rattle.std.proofs.Common.{arith, subst, ap, length, reverse, sym, ◌∙◌}
use Rattle.std.proofs.lemmas.List.{length-reverse}
use Rattle.explicit_kernel.specs.Stack.{IsBefore}
use Rattle.explicit_kernel.proofs.StackFacts.{stands-before}
use Rattle.explicit_kernel.proofs.stack.Stack.take.Goals as goal

pub returns : goal.returns
returns g c = subst (λ l. IsBefore l c.args.below c.in-Some.item (reverse c.pop.new.self.items)) c.self.view_is
    (stands-before c.self.inside.items.items c.pop.new.self.items c.args.below c.in-Some.item
    (omega (arith, c.requires, length-reverse c.self.inside.items.items, ap length c.self.view_is))
    (sym c.truncate.ensures.items ∙ c.in-Some.ensures.items))
