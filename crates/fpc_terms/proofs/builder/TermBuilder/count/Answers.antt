use Rattle.std.proofs.Common.{sym, ◌∙◌}
use Rattle.fpc_terms.proofs.BuilderFacts.{count-arguments_of}
use Rattle.fpc_terms.proofs.builder.TermBuilder.count.Goals as goal

pub returns-clause-arguments : goal.returns-clause-arguments
returns-clause-arguments c = rw (← c.self.view_is) (c.self.invariant.0.whole ∙ sym (count-arguments_of _))
