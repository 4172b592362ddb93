use Rattle.std.proofs.Common.{◌∙◌, ap, not}
use Rattle.clause_language.proofs.ClauseReading.{takes-fact, takes-rule}
use Rattle.clause_language.proofs.clause_reader.ClauseReader.end.Goals as goal

pub returns-then-is_none : goal.returns-then-is_none
returns-then-is_none c = λ names s d h e. takes-fact names s c.args.self.now d c.distinct.ensures h c.put_head.result _ e (c.is_none.ensures ∙ ap not c.if-is_none.true) c.put_head.ensures.ok c.put_head.ensures.err

pub returns : goal.returns
returns c = λ names s d h e. takes-rule names s c.args.self.now d c.distinct.ensures h c.put_in_body.result _ e (c.is_none.ensures ∙ ap not c.if-is_none.false) c.put_in_body.ensures.ok c.put_in_body.ensures.err
