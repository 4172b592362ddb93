use Rattle.clause_language.proofs.FileTokens.{item-certificate, item-no_certificate}
use Rattle.clause_language.proofs.file.FileReader.begin_term.Goals as goal

pub returns-in-Definition : goal.returns-in-Definition
returns-in-Definition c = λ names kind expected earlier s h m. rw c.refused.ensures (item-no_certificate names kind expected earlier s c.args.self.now h m c.in-Definition.is)

pub returns-in-Certificate : goal.returns-in-Certificate
returns-in-Certificate c = λ names kind expected earlier s h m. item-certificate names kind expected earlier s c.args.self.now h m c.in-Certificate.is
