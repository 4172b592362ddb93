use Rattle.std.proofs.Common.{◌∙◌}
use Rattle.elaborator.proofs.CheckRight.{right-where-ok}
use Rattle.elaborator.proofs.check.check.Goals as goal

pub returns-clause-right : goal.returns-clause-right
returns-clause-right c =
    right-where-ok c.erasure.ensures c.args.program.now c.requires.program (c.requires.logic ∙ c.requires.lkf) c.args.problem.now.goal c.plain_search.result
    c.plain_search.ensures.right
