use Rattle.clause_language.proofs.FileTaking.{declaration-ends}
use Rattle.clause_language.proofs.file.FileReader.end_declaration.Goals as goal

pub returns-in_ok-push-in-Some-clause-ok : goal.returns-in_ok-push-in-Some-clause-ok
returns-in_ok-push-in-Some-clause-ok c = λ names kind expected earlier logic items d different h.
    rw c.in_ok-push-in-Some.ensures.ok
    (declaration-ends names kind expected earlier c.args.self.now logic items d c.in-Some.declared c.replace-ended.new.dest h (c.is_ended.ensures.0 c.if-not-is_ended.false)
    (λ x ps w number k a. (let e = c.in_ok-declared.ensures names logic x ps w number (rw c.replace-ended.ensures.value k) a in let f = c.in-Some.is in cc)))
