use Rattle.std.proofs.Common.{length}
use Rattle.fpc_base.specs.Lexeme.{items_of}
use Rattle.clause_language.proofs.AtomFacts.{result-named, result-open, result-few}
use Rattle.clause_language.proofs.AtomReading.{end-read, end-refused}
use Rattle.clause_language.proofs.single_atom.read_atom.Goals as goal

pub returns-in-Ok-clause-read : goal.returns-in-Ok-clause-read
returns-in-Ok-clause-read c =
    end-read (length c.args.bytes.now) (items_of c.args.bytes.now) c.read_tokens.new.names c.in-Ok.reader c.finish.result c.distinct.ensures c.in-Ok.ensures.ok
    (λ before d h. c.finish.ensures c.read_tokens.new.names before d h)

pub returns-in-Ok-clause-refused : goal.returns-in-Ok-clause-refused
returns-in-Ok-clause-refused c = λ small.
    end-refused (length c.args.bytes.now) (items_of c.args.bytes.now) c.read_tokens.new.names c.in-Ok.reader c.finish.result c.distinct.ensures c.in-Ok.ensures.ok
    (λ before d h. c.finish.ensures c.read_tokens.new.names before d h)

pub returns-in-Ok-clause-named : goal.returns-in-Ok-clause-named
returns-in-Ok-clause-named c = result-named (items_of c.args.bytes.now) c.read_tokens.new.names c.distinct.ensures c.finish.result (returns-in-Ok-clause-read c)

pub returns-in-Ok-clause-is_open : goal.returns-in-Ok-clause-is_open
returns-in-Ok-clause-is_open c = result-open (items_of c.args.bytes.now) c.read_tokens.new.names c.distinct.ensures c.finish.result (returns-in-Ok-clause-read c)

pub returns-in-Ok-clause-few : goal.returns-in-Ok-clause-few
returns-in-Ok-clause-few c = result-few (items_of c.args.bytes.now) c.read_tokens.new.names c.distinct.ensures c.finish.result (returns-in-Ok-clause-read c)
