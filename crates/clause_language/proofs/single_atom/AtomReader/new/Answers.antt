use Rattle.fpc_terms.specs.ReadTerm.{numbered}
use Rattle.clause_language.proofs.single_atom.AtomReader.new.Goals as goal

pub returns : goal.returns
returns c = λ names. record { front = tt; variables = c.new-2.ensures; holds = λ number numbers a b. c.new.ensures number (numbered numbers) }
