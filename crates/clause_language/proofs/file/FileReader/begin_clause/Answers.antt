use Rattle.clause_language.specs.ClauseMachine.{clause_start}
use Rattle.clause_language.proofs.FileTokens.{item-clause}
use Rattle.clause_language.proofs.file.FileReader.begin_clause.Goals as goal

pub returns-clause-taken : goal.returns-clause-taken
returns-clause-taken c = λ kind expected earlier s x h m e.
    let taken = rw e at (c.take.ensures.taken clause_start (c.new.ensures c.args.names.now)) in
    rw e (item-clause c.args.names.now kind expected earlier s c.args.self.now h m c.take.result c.take.new.names x c.take.new.self c.take.ensures.names taken)
