use Rattle.std.proofs.Common.{sym, ◌∙◌}
use Rattle.polarised_formulas.proofs.ReaderFacts.{takes-sign}
use Rattle.polarised_formulas.proofs.reader.FormulaReader.take_sign.Goals as goal

pub returns-in-Some : goal.returns-in-Some
returns-in-Some c = λ number logic parameters s h m.
    takes-sign number logic parameters s c.args.sign c.in-Some.beginning c.begin.result c.args.self.now c.begin.new.self h m (sym c.begins.ensures ∙ c.in-Some.is) (c.begin.ensures number logic parameters s h m)
