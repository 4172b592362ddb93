use Rattle.lkf_rules.specs.Lkf.{lkf}
use Rattle.explicit_kernel.proofs.RejectionLaws.{rejected_at_line, rejected_begins}
use Rattle.explicit_kernel.proofs.laws.rejection.Goals as goal

pub returns-clause-line : goal.returns-clause-line
returns-clause-line c = rejected_at_line lkf

pub returns-clause-begins : goal.returns-clause-begins
returns-clause-begins c = rejected_begins lkf
