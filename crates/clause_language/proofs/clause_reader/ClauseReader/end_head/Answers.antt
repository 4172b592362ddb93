use Rattle.std.proofs.Common.{sym, ◌∙◌}
use Rattle.clause_language.proofs.ClauseReading.{refuses-if, takes-if}
use Rattle.clause_language.proofs.clause_reader.ClauseReader.end_head.Goals as goal

pub returns-then-is_some : goal.returns-then-is_some
returns-then-is_some c = λ names s d h e. refuses-if names s c.args.self.now d c.distinct.ensures h e (sym c.is_some.ensures ∙ c.if-is_some.true)

pub returns : goal.returns
returns c = λ names s d h e. takes-if names s c.args.self.now d c.distinct.ensures h c.put_head.result _ e (sym c.is_some.ensures ∙ c.if-is_some.false) c.put_head.ensures.ok c.put_head.ensures.err
