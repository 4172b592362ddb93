use Rattle.std.proofs.Common.{sym, ◌∙◌}
use Rattle.fpc_base.specs.Lexeme.{lexeme_as}
use Rattle.polarised_formulas.proofs.ProblemFacts.{takes-token}
use Rattle.polarised_formulas.proofs.problem.ProblemReader.take.Goals as goal

pub returns-else-is_dot-clause-taken : goal.returns-else-is_dot-clause-taken
returns-else-is_dot-clause-taken c = λ s h.
    takes-token c.take_token.result c.args.names.now c.take_token.new.names c.args.none.now s (lexeme_as c.args.lexeme) c.args.self.now c.take_token.new.reader c.in-Reading.logic h c.in-Reading.is
    (sym c.is_dot.ensures ∙ c.if-is_dot.false) c.requires.none c.take_token.ensures.taken
