use Rattle.lkf_rules.proofs.Sound.{lkf_is_lawful}
use Rattle.lkf_rules.specs.Lkf.{lkf}
use Rattle.explicit_kernel.proofs.JudgmentLaws.{accepted_is_spelled, accepted_has_nodes}
use Rattle.explicit_kernel.proofs.laws.acceptance.Goals as goal

pub returns-clause-spelled : goal.returns-clause-spelled
returns-clause-spelled c = accepted_is_spelled lkf lkf_is_lawful

pub returns-clause-nodes : goal.returns-clause-nodes
returns-clause-nodes c = accepted_has_nodes lkf
