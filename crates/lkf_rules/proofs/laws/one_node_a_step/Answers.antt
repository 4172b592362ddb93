use Rattle.polarised_formulas.proofs.Calculus.Spelling.{length-spelling}
use Rattle.lkf_rules.specs.Lkf.{lkf}
use Rattle.lkf_rules.proofs.laws.one_node_a_step.Goals as goal

pub returns : goal.returns
returns c = length-spelling lkf
