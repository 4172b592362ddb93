use Rattle.fpc_terms.specs.Open.{constant}
use Rattle.fpc_terms.proofs.SubstitutionFacts.{IsOneTerm-put}
use Rattle.fpc_terms.proofs.substitution.with_constant.Goals as goal

pub from_vec-requires : goal.from_vec-requires
from_vec-requires c = rw (c.in_ok-cells.ensures, c.cells.ensures) (IsOneTerm-put (constant c.args.name) c.args.term.now)
