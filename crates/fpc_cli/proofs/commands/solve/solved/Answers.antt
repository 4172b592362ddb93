use Rattle.fpc_cli.specs.Command.{chosen_of}
use Rattle.fpc_cli.proofs.commands.SolveFacts.{caused-by, caused-without}
use Rattle.fpc_cli.proofs.commands.solve.solved.Goals as goal

pub returns-in-Ok-clause-caused : goal.returns-in-Ok-clause-caused
returns-in-Ok-clause-caused g c =
    let before = c.args.files.now in
    let after = c.definition_in.new.files in
    caused-by (g.F.Source.outside before).content c.args.budget (chosen_of c.args.definition) c.args.atom.now
    (g.F.Source.outside before)
    (g.F.Source.outside after)
    c.definition_in.new.names c.in-Ok.definition c.atom_answer.result c.in-Ok.ensures.read c.atom_answer.ensures

pub returns-clause-caused : goal.returns-clause-caused
returns-clause-caused g c =
    let before = c.args.files.now in
    let after = c.definition_in.new.files in
    caused-without (g.F.Source.outside before).content c.args.budget (chosen_of c.args.definition) c.args.atom.now
    (g.F.Source.outside before)
    (g.F.Source.outside after)
    c.in-Err.answer c.in-Err.ensures.decides
