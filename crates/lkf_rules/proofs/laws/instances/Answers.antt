use Rattle.lkf_rules.proofs.Sound.{lkf_is_lawful}
use Rattle.lkf_rules.proofs.Complete.{IsInstance-premises_of, premises_of-instance}
use Rattle.lkf_rules.proofs.laws.instances.Goals as goal

pub returns-clause-instance : goal.returns-clause-instance
returns-clause-instance c =
    λ step n q ps scope. (IsInstance-premises_of step n q ps scope, premises_of-instance step n q ps)

pub returns-clause-scope : goal.returns-clause-scope
returns-clause-scope c = λ step n q ps scope fits. (lkf_is_lawful.keeps step n q ps fits).scope scope

pub returns-clause-logic : goal.returns-clause-logic
returns-clause-logic c = λ step n q ps of fits. (lkf_is_lawful.keeps step n q ps fits).logic of

pub returns-clause-root : goal.returns-clause-root
returns-clause-root c = λ f closed of. (lkf_is_lawful.root_scope f closed, lkf_is_lawful.root_logic f of)
