use Rattle.lkf_rules.specs.Lkf.{lkf}
use Rattle.lkf_rules.proofs.Sound.{lkf_is_lawful}
use Rattle.explicit_kernel.proofs.NamesAdded.{added-none}
use Rattle.explicit_kernel.proofs.Judging.{judged-memory, right-of}
use Rattle.explicit_kernel.proofs.verify.verify.Goals as goal

pub returns-in-Err-clause-judged : goal.returns-in-Err-clause-judged
returns-in-Err-clause-judged g c = judged-memory lkf c.args.names.now c.args.problem.now.goal (g.S.Source.outside c.args.source.now).left c.args.steps.now

pub returns-clause-right : goal.returns-clause-right
returns-clause-right g c =
    right-of lkf lkf_is_lawful c.verify_through-verdict.new.names c.args.problem.now.goal (g.S.Source.outside c.args.source.now).left (g.S.Source.outside c.verify_through-verdict.new.source).left c.args.steps.now c.verify_through-verdict.new.steps c.verify_through-verdict.result
    c.distinct.ensures c.requires.closed c.verify_through-verdict.ensures.judged

pub returns-in-Err-clause-only : goal.returns-in-Err-clause-only
returns-in-Err-clause-only g c = added-none c.args.names.now (g.S.Source.outside c.args.source.now).left
