use Rattle.fpc_base.specs.Lexeme.{lexeme_as}
use Rattle.polarised_formulas.proofs.ReadFacts.{taken-for}
use Rattle.polarised_formulas.proofs.read.take_token.Goals as goal

pub returns-clause-taken : goal.returns-clause-taken
returns-clause-taken c = λ logic s h.
    taken-for logic c.args.parameters.now c.take-taken.result c.args.names.now c.take-taken.new.names s (lexeme_as c.args.lexeme) c.args.reader.now c.take-taken.new.self c.distinct.ensures c.take-taken.ensures.grows c.take-taken.ensures.taken h
