use Rattle.fpc_base.specs.Lexeme.{lexeme_as}
use Rattle.clause_language.proofs.DeclarationReading.{takes-token}
use Rattle.clause_language.proofs.declaration_reader.DeclarationReader.take_in_formula.Goals as goal

pub returns-then-is-clause-taken : goal.returns-then-is-clause-taken
returns-then-is-clause-taken c = λ logic s h m. rw (c.is.ensures.0 c.if-is.true) (c.take_dot.ensures logic s h m)

pub returns-clause-taken : goal.returns-clause-taken
returns-clause-taken c = λ logic s h m.
    takes-token c.take_token.result c.args.names.now c.take_token.new.names logic s (lexeme_as c.args.lexeme) c.args.self.now c.take_token.new.reader h m
    (λ e. let d = c.is.ensures.1 e in let n = c.if-is.false in cc) c.take_token.ensures.names c.take_token.ensures.taken
