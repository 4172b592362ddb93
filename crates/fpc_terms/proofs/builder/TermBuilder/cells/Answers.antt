use Rattle.std.proofs.Common.{◌∙◌}
use Rattle.fpc_terms.proofs.BuilderFacts.{cells-closed}
use Rattle.fpc_terms.proofs.builder.TermBuilder.cells.Goals as goal

pub returns-clause-whole : goal.returns-clause-whole
returns-clause-whole c = rw (← c.self.view_is) (λ none. c.as_slice.ensures.value ∙ cells-closed c.self.inside.cells.items c.self.inside.places c.self.inside.whole _ _ c.self.invariant.0 none)
