use Rattle.std.proofs.Common.{sym, ◌∙◌}
use Rattle.polarised_formulas.proofs.ReaderFacts.{whole-by}
use Rattle.polarised_formulas.proofs.reader.FormulaReader.is_whole.Goals as goal

pub returns-then-stands : goal.returns-then-stands
returns-then-stands c = λ number logic parameters s h. whole-by number logic parameters s c.args.self.now c.is_outermost.result h (sym c.stands.ensures ∙ c.if-stands.true) c.is_outermost.ensures
