use Rattle.std.proofs.Common.{sym, ◌∙◌, refl}
use Rattle.polarised_formulas.proofs.ReaderFacts.{refuses-close, takes-close}
use Rattle.polarised_formulas.proofs.reader.FormulaReader.take_close.Goals as goal

pub returns-then-not-close : goal.returns-then-not-close
returns-then-not-close c = λ number logic parameters s h m.
    refuses-close number logic parameters s c.args.self.now h m (sym c.close.ensures.answer ∙ c.if-not-close.true)

pub returns : goal.returns
returns c = λ number logic parameters s h m.
    takes-close number logic parameters s c.args.self.now _ h m (sym c.close.ensures.answer ∙ c.if-not-close.false) (rw (c.keep.ensures, c.quantifiers.ensures, c.close.ensures.value) refl)
