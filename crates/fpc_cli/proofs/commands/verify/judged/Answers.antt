use Rattle.fpc_cli.proofs.commands.VerifyFacts.{ends-so}
use Rattle.fpc_cli.proofs.commands.verify.judged.Goals as goal

pub returns-clause-ends : goal.returns-clause-ends
returns-clause-ends g c = λ bytes name read start.
    let before = c.args.files.now in
    let after = c.verify-verdict.new.source in
    ends-so c.first_judgment.ensures c.args.names.now c.verify-verdict.new.names
    c.verify-verdict.ensures.grows c.distinct.ensures c.args.problem.now.goal bytes read
    c.requires.closed c.requires.lkf ((g.F.Source.outside before).content name)
    (g.F.Source.outside before)
    (g.F.Source.outside after)
    start c.verify-verdict.ensures.opened _ _ c.verify-verdict.result c.answer_of.result
    c.answer_of.ensures c.verify-verdict.ensures.judged c.verify-verdict.ensures.right
    c.verify-verdict.ensures.count c.verify-verdict.ensures.reason
