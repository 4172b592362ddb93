use Rattle.fpc_cli.proofs.commands.GuidedTexts.{elaboration-searched}
use Rattle.fpc_cli.proofs.commands.guided.explicit.Goals as goal

pub returns : goal.returns
returns c =
    elaboration-searched c.args.names.now c.args.program.now c.args.problem.now.goal c.args.budget c.in_ok-elaborated.elaborated c.in_ok-elaborated.ensures.elaborated c.in_ok-elaborated.ensures.verified
    c.explicit_of.result c.explicit_of.ensures
