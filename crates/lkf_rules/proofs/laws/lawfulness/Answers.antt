use Rattle.lkf_rules.proofs.Sound.{lkf_is_lawful}
use Rattle.lkf_rules.proofs.laws.lawfulness.Goals as goal

pub returns : goal.returns
returns c = lkf_is_lawful
