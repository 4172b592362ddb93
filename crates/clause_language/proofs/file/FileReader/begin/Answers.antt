use Rattle.clause_language.proofs.FileTokens.{item-formula}
use Rattle.clause_language.proofs.file.FileReader.begin.Goals as goal

pub returns-in-Sign-Formula-clause-taken : goal.returns-in-Sign-Formula-clause-taken
returns-in-Sign-Formula-clause-taken c = λ kind expected earlier s h m.
    let i = rw c.in-Sign-Formula.is at c.in-Sign-Formula.field-0-is in
    rw (c.in-Sign-Formula.is, i) (item-formula c.args.names.now kind expected earlier s c.args.self.now h m c.new.result c.new.ensures)
