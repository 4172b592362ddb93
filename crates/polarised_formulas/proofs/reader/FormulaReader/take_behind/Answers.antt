use Rattle.polarised_formulas.proofs.ReaderFacts.{refuses-other}
use Rattle.polarised_formulas.proofs.reader.FormulaReader.take_behind.Goals as goal

pub returns-in_default : goal.returns-in_default
returns-in_default c = λ number logic parameters s h m. refuses-other number logic parameters s c.args.lexeme c.args.self.now h m c.in_default.not-Sign
