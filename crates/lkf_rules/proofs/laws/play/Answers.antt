use Rattle.polarised_formulas.proofs.Calculus.Spelling.{IsSpelling-plays, PlaysOut-spelling}
use Rattle.lkf_rules.specs.Lkf.{lkf}
use Rattle.lkf_rules.proofs.Sound.{lkf_is_lawful}
use Rattle.lkf_rules.proofs.laws.play.Goals as goal

pub returns : goal.returns
returns c = λ f steps closed. (
  IsSpelling-plays lkf lkf_is_lawful f steps closed,
  PlaysOut-spelling lkf lkf_is_lawful f steps,
)
