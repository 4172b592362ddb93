use Rattle.clause_language.proofs.FileTokens.{definition-ends}
use Rattle.clause_language.proofs.file.FileReader.finish_definition.Goals as goal

pub returns-in-AtItem : goal.returns-in-AtItem
returns-in-AtItem c = λ names kind expected earlier s h. definition-ends names kind expected earlier s c.args.self h c.in-AtItem.is
