use Rattle.std.proofs.Common.{sym, ◌∙◌}
use Rattle.clause_language.proofs.FileTokens.{certificate-ends}
use Rattle.clause_language.proofs.file.FileReader.finish_certificate.Goals as goal

pub returns-in-Ok-Some : goal.returns-in-Ok-Some
returns-in-Ok-Some c = λ names kind expected earlier s h.
    rw c.count.ensures
    (certificate-ends names kind expected earlier s c.args.self h c.in-Ok-Some.term c.in-Finished.is c.distinct.ensures
    (λ number leaf t w k e. sym c.in-Ok-Some.field-0-is ∙ c.in-Ok-Some.ensures.whole number leaf t w k e))
