use Rattle.std.proofs.Common.{sym, ◌∙◌, ap}
use Rattle.polarised_formulas.specs.declared.logic.Logic.{Logic}
use Rattle.polarised_formulas.specs.Machine.{joiner_of}
use Rattle.polarised_formulas.proofs.ReaderFacts.{refuses-sign}
use Rattle.polarised_formulas.proofs.reader.FormulaReader.take_operator.Goals as goal

pub returns-in-None : goal.returns-in-None
returns-in-None c = λ number logic parameters s h m n.
    refuses-sign number logic parameters s c.args.sign c.args.self.now h m (ap (λ (l : Logic). joiner_of l c.args.sign) (sym h.in_logic) ∙ sym c.joiner.ensures ∙ c.in-None.is) n
