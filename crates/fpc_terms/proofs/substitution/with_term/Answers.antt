use Rattle.fpc_terms.specs.Open.{at_one}
use Rattle.fpc_terms.proofs.SubstitutionFacts.{IsOneTerm-put}
use Rattle.fpc_terms.proofs.substitution.with_term.Goals as goal

pub from_vec-requires : goal.from_vec-requires
from_vec-requires c = rw (c.in_ok-cells.ensures, c.cells.ensures) (IsOneTerm-put (at_one c.args.variable c.args.by.now) c.args.term.now)
