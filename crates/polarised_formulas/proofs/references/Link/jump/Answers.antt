use Rattle.polarised_formulas.proofs.ReferenceFacts.{in-front}
use Rattle.polarised_formulas.proofs.references.Link.jump.Goals as goal

pub returns-clause-tail : goal.returns-clause-tail
returns-clause-tail g c = rw (← c.self.view_is) (in-front _ c.self.invariant.1)
