use Rattle.std.proofs.Common.{arith, subst, ap, length, reverse}
use Rattle.std.proofs.lemmas.List.{length-reverse}
use Rattle.explicit_kernel.specs.Stack.{IsLowest}
use Rattle.explicit_kernel.proofs.StackFacts.{lowest}
use Rattle.explicit_kernel.proofs.stack.Stack.keep.Goals as goal

pub returns : goal.returns
returns g c = subst (λ l. IsLowest l c.args.lowest (reverse c.truncate.new.self.items)) c.self.view_is
    (lowest c.self.inside.items.items c.truncate.new.self.items c.args.lowest (omega (arith, c.requires, length-reverse c.self.inside.items.items, ap length c.self.view_is)) c.truncate.ensures.items)
