use Rattle.polarised_formulas.proofs.Calculus.Spelling.{IsSpelling-plays}
use Rattle.lkf_rules.specs.Lkf.{lkf}
use Rattle.lkf_rules.proofs.Sound.{lkf_is_lawful}
use Rattle.lkf_rules.proofs.laws.soundness.Goals as goal

pub returns : goal.returns
returns c = λ f steps closed out. (IsSpelling-plays lkf lkf_is_lawful f steps closed out).derivation
