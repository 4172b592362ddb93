use Rattle.polarised_formulas.proofs.TableGrowth.{formula-grown}
use Rattle.fpc_cli.specs.Command.{chosen_of}
use Rattle.fpc_cli.proofs.commands.GuidedFacts.{definition-comes, definition-decides}
use Rattle.fpc_cli.proofs.commands.guided.definition_searched.Goals as goal

pub certificate_searched-requires-clause-goal : goal.certificate_searched-requires-clause-goal
certificate_searched-requires-clause-goal g c = formula-grown c.args.names.now c.definition_in.new.names c.definition_in.ensures.names c.args.problem.now.goal c.requires.goal

pub returns-in-Ok-clause-comes : goal.returns-in-Ok-clause-comes
returns-in-Ok-clause-comes g c = λ first goal_read.
    let before = c.args.files.now in
    let mid = c.definition_in.new.files in
    let after = c.certificate_searched.new.files in
    definition-comes (g.F.Source.outside before).content (g.F.Source.outside mid).content c.definition_in.ensures.content
    c.args.wanted c.args.budget (chosen_of c.args.definition) c.args.certificate.now
    (g.F.Source.outside before)
    (g.F.Source.outside mid)
    (g.F.Source.outside after)
    first c.args.names.now c.definition_in.new.names c.definition_in.ensures.names c.args.problem.now.goal goal_read c.in-Ok.definition c.certificate_searched.result
    c.in-Ok.ensures.read c.certificate_searched.ensures.comes

pub returns-in-Err-clause-comes : goal.returns-in-Err-clause-comes
returns-in-Err-clause-comes g c = λ first goal_read.
    let before = c.args.files.now in
    let after = c.definition_in.new.files in
    definition-decides (g.F.Source.outside before).content c.args.wanted c.args.budget (chosen_of c.args.definition) c.args.certificate.now first
    (g.F.Source.outside before)
    (g.F.Source.outside after)
    c.in-Err.answer c.in-Err.ensures.decides
