use Rattle.std.proofs.Common.{sym, ◌∙◌, refl}
use Rattle.polarised_formulas.proofs.ReaderFacts.{refuses-join, takes-join}
use Rattle.polarised_formulas.proofs.reader.FormulaReader.join.Goals as goal

pub returns-then-not-operator : goal.returns-then-not-operator
returns-then-not-operator c = λ number logic parameters s sign h m e.
    refuses-join number logic parameters s sign c.args.joiner c.args.self.now h m e (sym c.operator.ensures.answer ∙ c.if-not-operator.true)

pub returns : goal.returns
returns c = λ number logic parameters s sign h m e.
    takes-join number logic parameters s sign c.args.joiner c.args.self.now _ h m e (sym c.operator.ensures.answer ∙ c.if-not-operator.false) (rw (c.keep.ensures, c.quantifiers.ensures, c.operator.ensures.value) refl)
