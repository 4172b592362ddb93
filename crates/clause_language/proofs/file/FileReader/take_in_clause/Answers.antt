use Rattle.fpc_base.specs.Lexeme.{lexeme_as}
use Rattle.clause_language.proofs.FileTokens.{in_clause-item}
use Rattle.clause_language.proofs.file.FileReader.take_in_clause.Goals as goal

pub returns-in-Ok-clause-taken : goal.returns-in-Ok-clause-taken
returns-in-Ok-clause-taken c = λ kind expected earlier s h m.
    in_clause-item c.args.names.now kind expected earlier s c.args.self.now h m (lexeme_as c.args.lexeme) c.take.new.names c.end_clause.result c.take.new.self c.end_clause.new.self
    c.in-Ok.ensures.names c.in-Ok.ensures.taken
    (λ logic items t k. c.end_clause.ensures.ok c.take.new.names kind expected earlier logic items t c.distinct.ensures k) c.end_clause.ensures.err
