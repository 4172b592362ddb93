use Rattle.lkf_rules.specs.Values.{levelled}
use Rattle.lkf_rules.proofs.Complete.{Answers-no_instance}
use Rattle.lkf_rules.proofs.rules.premises.Goals as goal

pub returns-clause-no_instance : goal.returns-clause-no_instance
returns-clause-no_instance c =
    Answers-no_instance c.args.step.now (levelled c.args.sequent.now).0 (levelled c.args.sequent.now).1 c.answer_to.result c.answer_to.ensures
