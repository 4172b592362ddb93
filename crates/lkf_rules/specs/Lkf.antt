-- LKF as a calculus whose steps name instances of rules.
use Rattle.polarised_formulas.specs.declared.logic.Logic.TheVariants.{Lkf}
use Rattle.polarised_formulas.specs.Calculus.Rules.{RuleCalculus}
use Rattle.lkf_rules.specs.Sequent.{Sequent, root_of, IsInScope, IsLkfSequent}
use Rattle.lkf_rules.specs.Rule.{Rule}
use Rattle.lkf_rules.specs.Premises.{premises_of}

abbrev pub lkf : RuleCalculus
lkf = record {
  logic = Lkf;
  SequentOf = Sequent;
  root_of = root_of;
  RuleOf = Rule;
  premises_of = premises_of;
  IsScoped = IsInScope;
  IsOfItsLogic = IsLkfSequent;
}
