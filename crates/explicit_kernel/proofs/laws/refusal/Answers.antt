use Rattle.lkf_rules.specs.Lkf.{lkf}
use Rattle.explicit_kernel.proofs.RefusalLaws.{refused_first}
use Rattle.explicit_kernel.proofs.laws.refusal.Goals as goal

pub returns : goal.returns
returns c = refused_first lkf
