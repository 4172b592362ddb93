use Rattle.fpc_terms.proofs.names.Names.proper.Goals as goal

pub returns : goal.returns
returns c = rw (← c.self.view_is) c.self.invariant
