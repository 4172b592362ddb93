use Rattle.clause_language.proofs.FileTokens.{no_dot-item, dot-item}
use Rattle.clause_language.proofs.file.FileReader.take_dot.Goals as goal

pub returns-then-not-is_whole : goal.returns-then-not-is_whole
returns-then-not-is_whole c = λ kind expected earlier s h m.
    rw c.refused.ensures (no_dot-item c.args.names.now kind expected earlier s c.args.self.now h m c.is_whole.result c.distinct.ensures c.distinct-2.ensures c.is_whole.ensures c.if-not-is_whole.true)

pub returns : goal.returns
returns c = λ kind expected earlier s h m. dot-item c.args.names.now kind expected earlier s c.args.self.now h m c.is_whole.result c.distinct.ensures c.distinct-2.ensures c.is_whole.ensures c.if-not-is_whole.false
