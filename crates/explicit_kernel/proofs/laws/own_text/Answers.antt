use Rattle.lkf_rules.proofs.Low.{lkf_has_low_steps}
use Rattle.lkf_rules.proofs.Sound.{lkf_is_lawful}
use Rattle.lkf_rules.specs.Lkf.{lkf}
use Rattle.explicit_kernel.proofs.OwnText.{own_text_is_accepted}
use Rattle.explicit_kernel.proofs.OwnVerdict.{own_text_is_verified}
use Rattle.explicit_kernel.proofs.laws.own_text.Goals as goal

pub returns-clause-accepted : goal.returns-clause-accepted
returns-clause-accepted c = own_text_is_accepted lkf lkf_has_low_steps lkf_is_lawful

pub returns-clause-verified : goal.returns-clause-verified
returns-clause-verified c = own_text_is_verified lkf lkf_has_low_steps lkf_is_lawful
