use Rattle.fpc_cli.proofs.commands.GuidedTexts.{check-searched}
use Rattle.fpc_cli.proofs.commands.guided.verdict.Goals as goal

pub returns : goal.returns
returns c =
    check-searched c.args.program.now c.args.problem.now.goal c.args.budget c.in_ok-outcome.outcome c.in_ok-outcome.ensures.outcome c.in_ok-outcome.ensures.units c.in_ok-outcome.ensures.right
    c.verdict_of.result c.verdict_of.ensures
