use Rattle.std.proofs.Common.{sym, ◌∙◌}
use Rattle.fpc_cli.proofs.WordCounts.{three-words, four-words, six-words}
use Rattle.fpc_cli.proofs.command.command_of.Goals as goal

pub returns-in-3 : goal.returns-in-3
returns-in-3 c =
    c.short_command.ensures
    ∙ three-words c.args.words.now c.get.result.now c.get-in-3.result.now c.get-in-3-2.result.now (sym c.len.ensures ∙ c.in-3.is) c.get.ensures c.get-in-3.ensures c.get-in-3-2.ensures

pub returns-in-4 : goal.returns-in-4
returns-in-4 c =
    c.guided_command.ensures
    ∙ four-words c.args.words.now c.get-in-4.result.now c.get-in-4-2.result.now c.get-in-4-3.result.now c.get-in-4-4.result.now (sym c.len.ensures ∙ c.in-4.is)
    c.get-in-4.ensures c.get-in-4-2.ensures c.get-in-4-3.ensures c.get-in-4-4.ensures

pub returns-in-6 : goal.returns-in-6
returns-in-6 c =
    c.long_guided_command.ensures
    ∙ six-words c.args.words.now c.get-in-6.result.now c.get-in-6-2.result.now c.get-in-6-3.result.now c.get-in-6-4.result.now c.get-in-6-5.result.now c.get-in-6-6.result.now
    (sym c.len.ensures ∙ c.in-6.is) c.get-in-6.ensures c.get-in-6-2.ensures c.get-in-6-3.ensures c.get-in-6-4.ensures c.get-in-6-5.ensures c.get-in-6-6.ensures
