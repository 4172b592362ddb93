use Rattle.std.proofs.Common.{◌≡◌, true}
use Rattle.fpc_base.specs.Lexeme.{lexeme_as}
use Rattle.clause_language.proofs.FileTokens.{in_declaration-item}
use Rattle.clause_language.proofs.file.FileReader.take_in_declaration.Goals as goal

pub returns-in-Ok-clause-taken : goal.returns-in-Ok-clause-taken
returns-in-Ok-clause-taken c = λ kind expected earlier s h m.
    in_declaration-item c.args.names.now kind expected earlier s c.args.self.now h m (lexeme_as c.args.lexeme) c.take.new.names c.end_declaration.result c.take.new.self c.end_declaration.new.self
    (λ e. (let t : c.is_at_name.result ≡ true = c.is_at_name.ensures.1 e in let f = c.if-is_at_name.false in cc)) c.in-Ok.ensures.names c.in-Ok.ensures.taken
    (λ logic items t k. c.end_declaration.ensures.ok c.take.new.names kind expected earlier logic items t c.distinct.ensures k) c.end_declaration.ensures.err
