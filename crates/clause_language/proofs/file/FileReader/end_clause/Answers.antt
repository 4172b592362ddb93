use Rattle.clause_language.proofs.FileTaking.{clause-ends}
use Rattle.clause_language.proofs.file.FileReader.end_clause.Goals as goal

pub returns-in_ok-push-in-Some-clause-ok : goal.returns-in_ok-push-in-Some-clause-ok
returns-in_ok-push-in-Some-clause-ok c = λ names kind expected earlier logic items s different h.
    rw c.in_ok-push-in-Some.ensures.ok
    (clause-ends names kind expected earlier c.args.self.now logic items s c.in-Some.clause c.replace-ended.new.dest h (c.is_ended.ensures.0 c.if-not-is_ended.false)
    (λ w number k a. (let e = c.finish.ensures names w number (rw c.replace-ended.ensures.value k) a in let f = c.in-Some.is in cc)))
