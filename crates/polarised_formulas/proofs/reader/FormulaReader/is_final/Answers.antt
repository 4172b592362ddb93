use Rattle.polarised_formulas.proofs.ReaderFacts.{ended-by}
use Rattle.polarised_formulas.proofs.reader.FormulaReader.is_final.Goals as goal

pub returns-in-Has : goal.returns-in-Has
returns-in-Has c = λ number logic parameters s h. ended-by number logic parameters s c.args.self.now c.is_outermost.result h c.in-Has.is c.is_outermost.ensures
