use Rattle.std.proofs.Common.{refl}
use Rattle.lkf_kernel.proofs.laws.rows.Goals as goal

pub returns-clause-units : goal.returns-clause-units
returns-clause-units c = (refl, refl)

pub returns-clause-stored : goal.returns-clause-stored
returns-clause-stored c = (refl, refl)

pub returns-clause-cnf : goal.returns-clause-cnf
returns-clause-cnf c = (refl, refl, refl)

pub returns-clause-rules : goal.returns-clause-rules
returns-clause-rules c = (refl, refl, refl, refl, refl)

pub returns-clause-cut : goal.returns-clause-cut
returns-clause-cut c = refl
