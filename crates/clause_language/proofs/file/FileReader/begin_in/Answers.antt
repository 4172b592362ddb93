use Rattle.clause_language.proofs.FileTaking.{takes-logic}
use Rattle.clause_language.proofs.file.FileReader.begin_in.Goals as goal

pub returns : goal.returns
returns c = λ names kind expected earlier h. takes-logic names kind expected earlier c.args.self.now c.args.logic c.is_other.result h c.is_other.ensures c.if-is_other.false
