use Rattle.fpc_terms.proofs.names.Names.text.Goals as goal

pub returns-clause-is_name : goal.returns-clause-is_name
returns-clause-is_name c = c.self.invariant _ _ c.text.ensures
