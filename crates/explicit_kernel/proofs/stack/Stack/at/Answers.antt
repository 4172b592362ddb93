use Rattle.std.proofs.Common.{arith, subst, ap, length}
use Rattle.std.proofs.lemmas.List.{length-reverse}
use Rattle.explicit_kernel.specs.Stack.{StandsAt}
use Rattle.explicit_kernel.proofs.StackFacts.{stands-at}
use Rattle.explicit_kernel.proofs.stack.Stack.at.Goals as goal

pub returns : goal.returns
returns g c = subst (λ l. StandsAt l c.args.below c.index.result.now) c.self.view_is
    (stands-at c.self.inside.items.items c.args.below c.index.result.now (omega (arith, c.requires, length-reverse c.self.inside.items.items, ap length c.self.view_is)) c.index.ensures)
