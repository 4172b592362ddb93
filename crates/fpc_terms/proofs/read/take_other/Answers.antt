use Rattle.fpc_terms.proofs.ReadFacts.{taken-other}
use Rattle.fpc_terms.proofs.read.take_other.Goals as goal

pub returns-clause-taken : goal.returns-clause-taken
returns-clause-taken c = λ most vars s dv v h.
    taken-other c.take-taken.result most c.args.names.now c.take-taken.new.names vars s c.args.lexeme c.args.reader.now c.take-taken.new.self c.distinct.ensures dv c.take-taken.ensures.grows v c.take-taken.ensures.taken h
