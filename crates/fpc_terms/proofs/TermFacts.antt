-- What proofs about terms use.
use Rattle.fpc_terms.specs.Term.{cells_of-injective}

pub ruleset term_facts = (cells_of-injective)
