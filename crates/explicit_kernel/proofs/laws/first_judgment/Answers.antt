use Rattle.explicit_kernel.proofs.JudgmentLaws.{judgment_stays}
use Rattle.explicit_kernel.proofs.laws.first_judgment.Goals as goal

pub returns : goal.returns
returns c = judgment_stays
