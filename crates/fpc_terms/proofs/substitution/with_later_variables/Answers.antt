use Rattle.fpc_terms.specs.Open.{later}
use Rattle.fpc_terms.proofs.SubstitutionFacts.{IsOneTerm-put}
use Rattle.fpc_terms.proofs.substitution.with_later_variables.Goals as goal

pub from_vec-requires : goal.from_vec-requires
from_vec-requires c = rw (c.in_ok-cells.ensures, c.cells.ensures) (IsOneTerm-put (later c.args.offset) c.args.term.now)
