use Rattle.fpc_cli.proofs.commands.VerifyFacts.{caused-by}
use Rattle.fpc_cli.proofs.commands.verify.verified.Goals as goal

pub returns-in-Ok-clause-caused : goal.returns-in-Ok-clause-caused
returns-in-Ok-clause-caused g c =
    let before = c.args.files.now in
    let mid = c.problem_in.new.files in
    let after = c.checked.new.files in
    caused-by (g.F.Source.outside before).content (g.F.Source.outside mid).content c.problem_in.ensures.content
    c.args.problem.now c.args.explicit.now
    (g.F.Source.outside before)
    (g.F.Source.outside mid)
    (g.F.Source.outside after)
    c.checked.result c.problem_in.new.names c.in-Ok.problem.goal c.in-Ok.ensures.read
    c.checked.ensures.comes
