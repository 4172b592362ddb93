use Rattle.fpc_cli.specs.Command.{chosen_of}
use Rattle.fpc_cli.proofs.commands.GuidedFacts.{caused-by}
use Rattle.fpc_cli.proofs.commands.guided.searched.Goals as goal

pub returns-in-Ok-clause-caused : goal.returns-in-Ok-clause-caused
returns-in-Ok-clause-caused g c =
    let before = c.args.files.now in
    let mid = c.problem_in.new.files in
    let after = c.definition_searched.new.files in
    caused-by (g.F.Source.outside before).content (g.F.Source.outside mid).content c.problem_in.ensures.content
    c.args.wanted c.args.budget c.args.problem.now (chosen_of c.args.definition) c.args.certificate.now
    (g.F.Source.outside before)
    (g.F.Source.outside mid)
    (g.F.Source.outside after)
    c.problem_in.new.names c.in-Ok.problem.goal c.definition_searched.result c.in-Ok.ensures.read c.definition_searched.ensures.comes
